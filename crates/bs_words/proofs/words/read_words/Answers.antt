use Rattle.std.proofs.Common.{rules, ◌≡◌, ◌≤◌, IfSome, ℕ, List, Option, Some, None, Result, codes, refl, ap, inl, arith, ◌∙◌}
use Rattle.std.specs.Prelude.{unwrap_or}
use Rattle.std.specs.Str.Parse.{ExplainsUnsignedError, HasUnsignedDigitsIfOk, ParsesUnsigned}
use Rattle.std.specs.declared.num.ParseIntError.{ParseIntError}
use Rattle.clap.specs.Values.{kind_of}
use Rattle.clap.specs.declared.error.ErrorKind.TheVariants.{OutOfMemory}
use Rattle.bs_words.specs.Words.{number_of, seed_of, texts, workers_of}
use Rattle.bs_words.proofs.Numbers.{no_fault, not_taken, reads_of, some_fault}
use Rattle.bs_words.proofs.words.read_words.Goals as goal

abbrev Gives : List ℕ → Result ℕ ParseIntError → Type 0
Gives = λ bs r. ParsesUnsigned 64 10 bs r × ExplainsUnsignedError 10 bs r × HasUnsignedDigitsIfOk bs r

at_most : (o : Option ℕ) (m : ℕ) → m ≡ unwrap_or o 65536 → IfSome o (λ k. (0 ≤ k) × (k ≤ 1048576)) → m ≤ 1048576
at_most None m e h = omega arith
at_most (Some k) m e h = omega (arith, h.1)

workers : (c : goal.Joined-matches-2) → (c.get_one.result ≡ workers_of (texts c.args.words.now)) × IfSome c.get_one.result (λ n. (1 ≤ n) × (n ≤ 64))
workers c = reads_of c.in-Ok.command c.in-Ok-matches.matches (texts c.args.words.now) c.in-Ok.ensures c.in-Ok-matches.ensures.parsed c.in-Ok-matches.ensures.matches
    0 (omega arith) (codes "workers") 1 64 (λ d. refl) (λ d. refl) (λ d. refl) refl refl refl
    ParseIntError Gives c.get_one.result (λ u x g. g.0) c.get_one.ensures.none c.get_one.ensures.value

memo : (c : goal.Joined-matches-2) → (c.get_one-in-Ok-matches.result ≡ number_of (codes "memo") (texts c.args.words.now)) × IfSome c.get_one-in-Ok-matches.result (λ n. (0 ≤ n) × (n ≤ 1048576))
memo c = reads_of c.in-Ok.command c.in-Ok-matches.matches (texts c.args.words.now) c.in-Ok.ensures c.in-Ok-matches.ensures.parsed c.in-Ok-matches.ensures.matches
    1 (omega arith) (codes "memo") 0 1048576 (λ d. refl) (λ d. refl) (λ d. refl) refl refl refl
    ParseIntError Gives c.get_one-in-Ok-matches.result (λ u x g. g.0) c.get_one-in-Ok-matches.ensures.none c.get_one-in-Ok-matches.ensures.value

seed : (c : goal.Joined-matches-2) → (c.get_one-in-Ok-matches-2.result ≡ seed_of (texts c.args.words.now)) × IfSome c.get_one-in-Ok-matches-2.result (λ n. (0 ≤ n) × (n ≤ 18446744073709551615))
seed c = reads_of c.in-Ok.command c.in-Ok-matches.matches (texts c.args.words.now) c.in-Ok.ensures c.in-Ok-matches.ensures.parsed c.in-Ok-matches.ensures.matches
    2 (omega arith) (codes "make") 0 18446744073709551615 (λ d. refl) (λ d. refl) (λ d. refl) refl refl refl
    ParseIntError Gives c.get_one-in-Ok-matches-2.result (λ u x g. g.0) c.get_one-in-Ok-matches-2.ensures.none c.get_one-in-Ok-matches-2.ensures.value

pub returns-in-Ok-matches-clause-memo_as_given : goal.returns-in-Ok-matches-clause-memo_as_given
returns-in-Ok-matches-clause-memo_as_given c = c.unwrap_or.ensures ∙ ap (λ o. unwrap_or o 65536) (memo c).0

pub returns-in-Ok-matches-clause-seed_as_given : goal.returns-in-Ok-matches-clause-seed_as_given
returns-in-Ok-matches-clause-seed_as_given c = (seed c).0

pub returns-in-Ok-matches-clause-memo_in_its_limit : goal.returns-in-Ok-matches-clause-memo_in_its_limit
returns-in-Ok-matches-clause-memo_in_its_limit c = at_most c.get_one-in-Ok-matches.result c.unwrap_or.result c.unwrap_or.ensures (memo c).1

pub returns-in-Ok-matches-clause-refused_at_a_fault : goal.returns-in-Ok-matches-clause-refused_at_a_fault
returns-in-Ok-matches-clause-refused_at_a_fault c = λ faulty. absurd (faulty (no_fault _ (texts c.args.words.now) c.in-Ok.ensures c.in-Ok-matches.ensures.kinds))

pub returns-in-Ok-matches-clause-workers_as_given : goal.returns-in-Ok-matches-clause-workers_as_given
returns-in-Ok-matches-clause-workers_as_given c = (workers c).0

pub returns-in-Ok-matches-clause-one_to_64_workers : goal.returns-in-Ok-matches-clause-one_to_64_workers
returns-in-Ok-matches-clause-one_to_64_workers c = (workers c).1

pub returns : goal.returns
returns c =
    let other : kind_of c.in-Err-matches.error ≡ OutOfMemory → ⊥ = λ e. c.in_default.not-OutOfMemory (c.kind.ensures ∙ e) in
    record {
      usage_only_at_a_fault = λ same none. some_fault _ (texts c.args.words.now) c.in-Err-matches.error c.in-Ok.ensures c.in-Err-matches.ensures.kinds other none;
      refused_at_a_fault = λ faulty. inl refl;
      accepted_are_not_usage = λ taken same. not_taken _ (texts c.args.words.now) c.in-Err-matches.error c.in-Ok.ensures c.in-Err-matches.ensures.passes other taken;
      workers_as_given = search rules;
      memo_as_given = search rules;
      seed_as_given = search rules;
      one_to_64_workers = search rules;
      memo_in_its_limit = search rules;
    }
