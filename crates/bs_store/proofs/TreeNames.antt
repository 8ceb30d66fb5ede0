-- Names that agree with codes decide trees.
use Rattle.std.proofs.Common.{List, subst}
use Rattle.bs_tree.specs.Code.{IsCode, tree_of}
use Rattle.bs_tree.specs.Canonical.{IsCanonicalSequence}
use Rattle.bs_tree.proofs.Canon.{canon_is, isomorphic_from_canon, canon_from_isomorphic}
use Rattle.bs_core.specs.Codes.{Code}
use Rattle.bs_core.specs.declared.table.Held.{Held}
use Rattle.bs_core.proofs.Agree.{each_at}
use Rattle.bs_store.specs.Seats.{AgreeBoth}
use Rattle.bs_store.specs.Walks.{Sound}
use Rattle.bs_store.specs.Trees.{NamesDecideTrees}

own_sequence : (s : Code) → IsCode s → IsCanonicalSequence (tree_of s) s
own_sequence s h = subst (IsCanonicalSequence (tree_of s)) h.canonical (canon_is (tree_of s))

pub agree_on_trees : (ps qs : List Held) → Sound ps → Sound qs → AgreeBoth ps qs → NamesDecideTrees ps qs
agree_on_trees ps qs sp sq agree i j p q at at' =
    let a = agree i j p q at at' in
    let wp = own_sequence p.code (each_at (λ (r : Held). IsCode r.code) ps i p sp.codes at) in
    let wq = own_sequence q.code (each_at (λ (r : Held). IsCode r.code) qs j q sq.codes at') in (
      λ e. isomorphic_from_canon (tree_of p.code) (tree_of q.code) p.code q.code wp wq (a.0 e),
      λ e. a.1 (canon_from_isomorphic (tree_of p.code) (tree_of q.code) p.code q.code wp wq e),
    )
