use Rattle.std.proofs.Common.{rules, ◌≡◌, length, sym, ap, ◌∙◌, arith}
use Rattle.std.proofs.lemmas.Grind.{common_steps}
use Rattle.bs_store.specs.Closing.{numbers_of}
use Rattle.bs_workers.proofs.Dealt.{first_are_empty, others_are_empty, free_of_empty, own_of_empty, own_of_free, both_own, numbers_mapped, as_many, come_home}
use Rattle.bs_workers.proofs.run.run_shared.Goals as goal

pub new-requires-clause-empty : goal.new-requires-clause-empty
new-requires-clause-empty g c = others_are_empty _ _ c.args.workers c.args.passes.items _ c.requires.passes.1 c.requires.table c.in_ok-of_memo.ensures.tail

pub close_store-requires-clause-own : goal.close_store-requires-clause-own
close_store-requires-clause-own g c =
    let first = first_are_empty _ _ c.args.workers c.args.passes.items c.split_off.new.self.items c.requires.passes.1 c.requires.table c.in_ok-of_memo.ensures.items in
    let rest = others_are_empty _ _ c.args.workers c.args.passes.items c.in-Err.refused.passes.items c.requires.passes.1 c.requires.table (c.in-Err.ensures.refused ∙ c.in_ok-of_memo.ensures.tail) in
    both_own g.N.StoreName.table _ _ _ (ap (λ s. s.table) c.in_ok-store.ensures ∙ c.requires.table) (own_of_empty _ _ first) (own_of_empty _ _ rest)

pub close_store-requires-clause-all : goal.close_store-requires-clause-all
close_store-requires-clause-all g c =
    let many : length c.args.passes.items ≡ c.in_ok-store.store.passes = search rules in
    come_home c.passes_have_all_numbers.ensures.new c.passes_have_all_numbers.ensures.home c.args.parts.table c.args.workers c.in_ok-store.store.passes
    c.args.passes.items c.split_off.new.self.items c.in-Err.refused.passes.items c.requires.passes.1 many
    (ap numbers_of c.in_ok-of_memo.ensures.items) (ap numbers_of (c.in-Err.ensures.refused ∙ c.in_ok-of_memo.ensures.tail))

pub run_jobs-passes-requires-clause-good_locals : goal.run_jobs-passes-requires-clause-good_locals
run_jobs-passes-requires-clause-good_locals g c κs within =
    free_of_empty _ _ (first_are_empty _ _ c.args.workers c.args.passes.items c.split_off.new.self.items c.requires.passes.1 c.requires.table c.in_ok-of_memo.ensures.items)

pub close_store-requires-2-clause-room : goal.close_store-requires-2-clause-room
close_store-requires-2-clause-room g c =
    let first = as_many c.run_jobs-passes.result.0.items c.split_off.new.self.items
    (numbers_mapped c.run_jobs-passes.result.0.items ∙ c.run_jobs-passes.ensures.numbers_stay ∙ sym (numbers_mapped c.split_off.new.self.items)) in
    let rest = as_many c.close-of_memo.result.items c.in_ok-of_memo.of_memo.items (c.close-of_memo.ensures.numbers ∙ ap (λ m. m.numbers) c.in-Ok.ensures.ok) in
    grind (arith, common_steps, first, rest, c.in_ok-of_memo.ensures.tail_len, c.in_ok-of_memo.ensures.len, c.in_ok-home.ensures.capacity)

pub close_store-requires-2-clause-own : goal.close_store-requires-2-clause-own
close_store-requires-2-clause-own g c =
    both_own g.N.StoreName.table _ _ _ (ap (λ s. s.table) c.in_ok-store.ensures ∙ c.requires.table)
    (own_of_free _ _ c.run_jobs-passes.ensures.locals_stay_good) (own_of_empty _ _ c.close-of_memo.ensures.empty)

pub close_store-requires-2-clause-all : goal.close_store-requires-2-clause-all
close_store-requires-2-clause-all g c =
    let many : length c.args.passes.items ≡ c.in_ok-store.store.passes = search rules in
    let first : numbers_of c.run_jobs-passes.result.0.items ≡ numbers_of c.split_off.new.self.items =
    numbers_mapped c.run_jobs-passes.result.0.items ∙ c.run_jobs-passes.ensures.numbers_stay ∙ sym (numbers_mapped c.split_off.new.self.items) in
    come_home c.passes_have_all_numbers.ensures.new c.passes_have_all_numbers.ensures.home c.args.parts.table c.args.workers c.in_ok-store.store.passes
    c.args.passes.items c.run_jobs-passes.result.0.items c.close-of_memo.result.items c.requires.passes.1 many
    (first ∙ ap numbers_of c.in_ok-of_memo.ensures.items) (c.close-of_memo.ensures.numbers ∙ ap (λ m. m.numbers) c.in-Ok.ensures.ok ∙ ap numbers_of c.in_ok-of_memo.ensures.tail)
