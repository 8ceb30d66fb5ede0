use Rattle.std.proofs.Common.{◌≡◌, ◌+◌, ◌<◌, [], ◌∷◌, ◌++◌, length, List, length-append, sym, ap, ◌∙◌, subst, refl, arith, true, false}
use Rattle.bs_tree.specs.Code.{IsCode, root_colour}
use Rattle.bs_core.specs.Codes.{Code, children}
use Rattle.bs_core.specs.Machine.{code_at}
use Rattle.bs_core.specs.declared.table.Held.{Held}
use Rattle.bs_core.proofs.Pairs.{code_of}
use Rattle.bs_store.specs.declared.walk_read.Pending.{Pending}
use Rattle.bs_store.specs.Seats.{OfPass}
use Rattle.bs_store.specs.Reading.{Reads, Looks, entered}
use Rattle.bs_store.proofs.Nodes.{mark, reads_begin, next_part, reads_step, reads_end}
use Rattle.bs_store.proofs.walk_read.read_code.Goals as goal

empty : (xs : List Pending) → (0 < length xs → false ≡ true) → xs ≡ []
empty [] h = refl
empty (x ∷ xs) h = absurd (let r = h (omega arith) in cc)

pub nodes-init : goal.nodes-init
nodes-init g c =
    let r = g.W.LinkSteps.seen c.args.reader.now in
    let x = c.args.name in
    let start = reads_begin x r.pass.held r.path c.known.ensures.held c.requires.held c.requires.path in
    let first : Reads (code_at x r.pass.held) r.pass.held r.path [] (c.new-pending.result.items ++ mark x 0 ∷ []) = subst (λ (l : List Pending). Reads (code_at x r.pass.held) r.pass.held r.path [] (l ++ mark x 0 ∷ [])) (sym c.new-pending.ensures) start in
    let then : Reads (code_at x r.pass.held) r.pass.held r.path [] c.push.new.self.items = subst (Reads (code_at x r.pass.held) r.pass.held r.path []) (sym c.push.ensures.items) first in
    record {
      reads = subst (λ (k : Code). Reads (code_at x r.pass.held) r.pass.held r.path k c.push.new.self.items) (sym c.new-pairs.ensures) then;
      pass = refl;
    }

pub look_one-colour-requires-clause-there : goal.look_one-colour-requires-clause-there
look_one-colour-requires-clause-there g c =
    let k = code_at c.args.name (g.W.LinkSteps.seen c.args.reader.now).pass.held in
    let r = g.W.LinkSteps.seen c.nodes.reader in
    (next_part k r.pass.held r.path c.nodes.pairs c.pop.new.self.items c.in-Some.next c.known-in-Some.ensures.held c.known-in-Some.ensures.path (subst (Reads k r.pass.held r.path c.nodes.pairs) c.in-Some.ensures.items c.nodes.invariant.reads)).there

pub look_one-colour-requires-clause-depth : goal.look_one-colour-requires-clause-depth
look_one-colour-requires-clause-depth g c =
    let k = code_at c.args.name (g.W.LinkSteps.seen c.args.reader.now).pass.held in
    let r = g.W.LinkSteps.seen c.nodes.reader in
    let n = next_part k r.pass.held r.path c.nodes.pairs c.pop.new.self.items c.in-Some.next c.known-in-Some.ensures.held c.known-in-Some.ensures.path (subst (Reads k r.pass.held r.path c.nodes.pairs) c.in-Some.ensures.items c.nodes.invariant.reads) in
    let small = (code_of (λ (q : Held). IsCode q.code) c.args.name (g.W.LinkSteps.seen c.args.reader.now).pass.held c.requires.held c.known.ensures.held.codes).small in
    let a = n.depth in
    let b = n.short in omega arith

pub look_one-colour-requires-clause-room : goal.look_one-colour-requires-clause-room
look_one-colour-requires-clause-room g c =
    let k = code_at c.args.name (g.W.LinkSteps.seen c.args.reader.now).pass.held in
    let r = g.W.LinkSteps.seen c.nodes.reader in
    let n = next_part k r.pass.held r.path c.nodes.pairs c.pop.new.self.items c.in-Some.next c.known-in-Some.ensures.held c.known-in-Some.ensures.path (subst (Reads k r.pass.held r.path c.nodes.pairs) c.in-Some.ensures.items c.nodes.invariant.reads) in
    let small = (code_of (λ (q : Held). IsCode q.code) c.args.name (g.W.LinkSteps.seen c.args.reader.now).pass.held c.requires.held c.known.ensures.held.codes).small in
    let same = ap (λ (d : Code). length (children d)) n.is in
    let a = n.room in omega arith

pub overflow_add-next : goal.overflow_add-next
overflow_add-next g c =
    let k = code_at c.args.name (g.W.LinkSteps.seen c.args.reader.now).pass.held in
    let r = g.W.LinkSteps.seen c.nodes.reader in
    let n = next_part k r.pass.held r.path c.nodes.pairs c.pop.new.self.items c.in-Some.next c.known-in-Some.ensures.held c.known-in-Some.ensures.path (subst (Reads k r.pass.held r.path c.nodes.pairs) c.in-Some.ensures.items c.nodes.invariant.reads) in
    let small = (code_of (λ (q : Held). IsCode q.code) c.args.name (g.W.LinkSteps.seen c.args.reader.now).pass.held c.requires.held c.known.ensures.held.codes).small in
    let a = n.depth in
    let b = n.short in omega arith

pub push-requires-in-Some : goal.push-requires-in-Some
push-requires-in-Some g c =
    let k = code_at c.args.name (g.W.LinkSteps.seen c.args.reader.now).pass.held in
    let r = g.W.LinkSteps.seen c.nodes.reader in
    let n = next_part k r.pass.held r.path c.nodes.pairs c.pop.new.self.items c.in-Some.next c.known-in-Some.ensures.held c.known-in-Some.ensures.path (subst (Reads k r.pass.held r.path c.nodes.pairs) c.in-Some.ensures.items c.nodes.invariant.reads) in
    let small = (code_of (λ (q : Held). IsCode q.code) c.args.name (g.W.LinkSteps.seen c.args.reader.now).pass.held c.requires.held c.known.ensures.held.codes).small in
    let b = n.short in omega arith

pub nodes-smaller : goal.nodes-smaller
nodes-smaller g c =
    let k = code_at c.args.name (g.W.LinkSteps.seen c.args.reader.now).pass.held in
    let r = g.W.LinkSteps.seen c.nodes.reader in
    let n = next_part k r.pass.held r.path c.nodes.pairs c.pop.new.self.items c.in-Some.next c.known-in-Some.ensures.held c.known-in-Some.ensures.path (subst (Reads k r.pass.held r.path c.nodes.pairs) c.in-Some.ensures.items c.nodes.invariant.reads) in
    let small = (code_of (λ (q : Held). IsCode q.code) c.args.name (g.W.LinkSteps.seen c.args.reader.now).pass.held c.requires.held c.known.ensures.held.codes).small in
    let b = n.short in
    let long = ap length c.push-in-Some.ensures in
    let d = length-append c.nodes.pairs ((c.in-Some.next.depth + 1, c.look_one-colour.result) ∷ []) in omega arith

pub nodes-preserved : goal.nodes-preserved
nodes-preserved g c =
    let k = code_at c.args.name (g.W.LinkSteps.seen c.args.reader.now).pass.held in
    let r = g.W.LinkSteps.seen c.nodes.reader in
    let r' = g.W.LinkSteps.seen c.look_one-colour.new.reader in
    let x = c.in-Some.next in
    let ys = c.look_one-colour.new.pending.items in
    let n = next_part k r.pass.held r.path c.nodes.pairs c.pop.new.self.items x c.known-in-Some.ensures.held c.known-in-Some.ensures.path (subst (Reads k r.pass.held r.path c.nodes.pairs) c.in-Some.ensures.items c.nodes.invariant.reads) in
    let looks = subst (λ (d : Code). Looks x d c.pop.new.self.items ys (entered x.name r.pass.held r.path) r'.path) n.is c.look_one-colour.ensures.looks in
    let colour = c.look_one-colour.ensures.colour ∙ ap root_colour n.is in
    let s = reads_step k r.pass.held r.path r'.path c.nodes.pairs c.pop.new.self.items ys x c.look_one-colour.result n colour looks in
    let held : r.pass.held ≡ r'.pass.held = ap (λ (p : OfPass). p.held) (sym c.look_one-colour.ensures.pass) in
    let t = subst (λ (l : List Held). Reads k l r'.path (c.nodes.pairs ++ (x.depth + 1, c.look_one-colour.result) ∷ []) ys) held s in
    record {
      reads = subst (λ (d : Code). Reads k r'.pass.held r'.path d ys) (sym c.push-in-Some.ensures) t;
      pass = c.look_one-colour.ensures.pass ∙ c.nodes.invariant.pass;
    }

pub of_canonical-requires : goal.of_canonical-requires
of_canonical-requires g c =
    let k = code_at c.args.name (g.W.LinkSteps.seen c.args.reader.now).pass.held in
    let r = g.W.LinkSteps.seen c.nodes.reader in
    let e = reads_end k r.pass.held r.path c.nodes.pairs c.nodes.pending.items (empty c.nodes.pending.items (c.in_default.ensures).variant.1) c.nodes.invariant.reads in
    subst IsCode (sym e) (code_of (λ (q : Held). IsCode q.code) c.args.name (g.W.LinkSteps.seen c.args.reader.now).pass.held c.requires.held c.known.ensures.held.codes)

pub returns-clause-code : goal.returns-clause-code
returns-clause-code g c =
    let k = code_at c.args.name (g.W.LinkSteps.seen c.args.reader.now).pass.held in
    let r = g.W.LinkSteps.seen c.nodes.reader in
    c.of_canonical.ensures ∙ reads_end k r.pass.held r.path c.nodes.pairs c.nodes.pending.items (empty c.nodes.pending.items (c.in_default.ensures).variant.1) c.nodes.invariant.reads

pub returns-clause-path : goal.returns-clause-path
returns-clause-path g c = c.nodes.invariant.reads.last (empty c.nodes.pending.items (c.in_default.ensures).variant.1)
