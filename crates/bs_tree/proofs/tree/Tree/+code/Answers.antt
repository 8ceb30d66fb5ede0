use Rattle.std.proofs.Common.{◌≡◌, ◌∙◌, refl, sym, ap, ap₂, arith, subst, ◌++◌, ◌∷◌, [], List, ℕ, ◌+◌, ◌<◌, map, take, get_or, length, IsPermutation}
use Rattle.std.proofs.lemmas.List.{take_more, map-append, length-map, length-take-le, take_all}
use Rattle.bs_tree.specs.Tree.{forest, Tree}
use Rattle.bs_tree.specs.Canonical.{canonical_sequence, IsCanonicalSequence}
use Rattle.bs_tree.specs.Code.{joined}
use Rattle.bs_tree.proofs.Trees.{length_le-nodes}
use Rattle.bs_tree.proofs.Canon.{canon_is}
use Rattle.bs_tree.proofs.CodeOf.{joined_is, canon_is_code}
use Rattle.bs_tree.proofs.tree.Tree.+code.Goals as goal

pub push-requires : goal.push-requires
push-requires t c =
    let xs = c.deref-child-items.result.now in
    rw c.children.invariant (omega (
      arith,
      length-map (take c.children.child-index xs) canonical_sequence,
      length-take-le c.children.child-index xs,
      ap length c.deref-child-items.ensures.value,
      length_le-nodes c.self.inside.children.items,
      c.self.invariant.small,
      c.self.invariant.count_is,
    ))

more : (xs : List Tree) (i : ℕ) (d : Tree) (cs : List (List (ℕ × ℕ))) (e : List (ℕ × ℕ)) → i < length xs → cs ≡ map canonical_sequence (take i xs) → e ≡ canonical_sequence d → d ≡ get_or xs i d → cs ++ e ∷ [] ≡ map canonical_sequence (take (i + 1) xs)
more xs i d cs e h a b k =
    ap₂ (λ (ys : List (List (ℕ × ℕ))) (y : List (ℕ × ℕ)). ys ++ y ∷ []) a (b ∙ ap canonical_sequence k)
    ∙ sym (map-append canonical_sequence (take i xs) (get_or xs i d ∷ [])) ∙ ap (map canonical_sequence) (sym (take_more xs i d h))

pub children-preserved : goal.children-preserved
children-preserved t c =
    c.push.ensures ∙ more c.deref-child-items.result.now c.children.child-index c.child-item.result c.children.codes c.code.result c.children-test.true c.children.invariant c.code.ensures.value c.child-item.is

whole : (xs ys : List Tree) (i : ℕ) (cs ds : List (List (ℕ × ℕ))) → length xs ≡ i → xs ≡ ys → cs ≡ map canonical_sequence (take i xs) → IsPermutation cs ds → IsPermutation (map canonical_sequence ys) ds
whole xs ys i cs ds h e a p =
    let f : cs ≡ map canonical_sequence ys = a ∙ ap (map canonical_sequence) (take_all i xs (omega arith) ∙ e) in
    subst (λ (zs : List (List (ℕ × ℕ))). IsPermutation zs ds) f p

pub join-requires : goal.join-requires
join-requires t c =
    let xs = c.self.inside.children.items in
    let tree : Tree = record { colour = c.self.inside.colour; below = forest xs } in
    let end : length c.deref-child-items.result.now ≡ c.children.child-index = omega arith in
    let p = whole c.deref-child-items.result.now xs c.children.child-index c.children.codes c.sort.new.self end c.deref-child-items.ensures.value c.children.invariant c.sort.ensures.same in
    let e : joined c.self.inside.colour c.sort.new.self ≡ canonical_sequence tree = joined_is tree xs c.sort.new.self refl p c.sort.ensures.order in
    let i = c.self.invariant in
    record { code = rw e (canon_is_code tree (omega (arith, i.small, i.count_is)) i.root i.coloured) }

pub returns-clause-value : goal.returns-clause-value
returns-clause-value t c =
    let xs = c.self.inside.children.items in
    let tree : Tree = record { colour = c.self.inside.colour; below = forest xs } in
    let end : length c.deref-child-items.result.now ≡ c.children.child-index = omega arith in
    let p = whole c.deref-child-items.result.now xs c.children.child-index c.children.codes c.sort.new.self end c.deref-child-items.ensures.value c.children.invariant c.sort.ensures.same in
    c.join.ensures ∙ joined_is tree xs c.sort.new.self refl p c.sort.ensures.order ∙ ap canonical_sequence c.self.view_is

pub returns-clause-canonical : goal.returns-clause-canonical
returns-clause-canonical t c =
    subst (λ (s : List (ℕ × ℕ)). IsCanonicalSequence c.args.self.now s) (sym (returns-clause-value t c)) (canon_is c.args.self.now)
