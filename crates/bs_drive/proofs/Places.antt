-- The places of a session's trees, and the pairs that a pass holds for them.
use Rattle.std.proofs.Common.{◌≡◌, ◌≢◌, ℕ, zero, suc, ◌+◌, ◌<◌, ◌↔◌, MatchOption, IfSome, List, [], ◌∷◌, ◌++◌, length, length-append, Option, Some, None, slice_set, IsTrue, refl, sym, ◌∙◌, ap, subst, inl, inr, arith}
use Rattle.bs_tree.specs.Isomorphic.{isomorphic}
use Rattle.bs_tree.specs.Code.{tree_of}
use Rattle.bs_script.specs.Blocks.{ScriptLines}
use Rattle.bs_core.specs.Codes.{Code}
use Rattle.std.specs.Bool.{Decides}
use Rattle.bs_core.specs.Machine.{times, code_at, pair, is_name}
use Rattle.bs_core.proofs.Basics.{name_test}
use Rattle.bs_core.specs.Laws.{often}
use Rattle.bs_core.specs.declared.name.Name.{Name}
use Rattle.bs_core.specs.declared.table.Held.{Held}
use Rattle.bs_store.specs.Trees.{NamesDecideTrees}
use Rattle.bs_store.specs.Walks.{hits, Within, Sound, More, Same, Mores}
use Rattle.bs_store.proofs.Often.{hits_self, often_times, code_is}
use Rattle.bs_memo.proofs.Taking.{often_at}
use Rattle.bs_names.specs.Names.{at}
use Rattle.bs_session.specs.Machine.{State, AreApart, Interns, Releases, Compares, IsTruthful, IsTrueOf}
use Rattle.bs_session.specs.declared.asked.Asked.TheVariants as asked
use Rattle.bs_drive.proofs.Kept.{truthful_by, truthful-as}
use Rattle.bs_names.specs.declared.live.LiveTree.{LiveTree}
use Rattle.bs_session.proofs.Sound.{at_cases}
use Rattle.std.proofs.lemmas.Bool.{false_from_ne_true}
use Rattle.bs_session.specs.declared.answer.Answer.TheVariants.{Yes, No}
use Rattle.bs_drive.specs.Alone.{yes_or_no, compared_codes}
use Rattle.bs_drive.specs.Shared.{held_of, tree_in, code_in, AreHeld, Has, Adds, SameBeside}

-- a test of two names
pub name_decides : (x y : Name) → Decides (is_name x y) (x ≡ y)
name_decides x y = name_test x y (λ b. Decides b (x ≡ y)) (λ e. (λ h. e, λ h. refl)) (λ n. (λ h. cc, λ e. absurd (n e)))

-- ---- how often the places have a pair
-- with one place more
pub often_added : (x : Name) (c : Code) (trees : List (Option Held)) (p : Held) → often x c (held_of (trees ++ Some p ∷ [])) ≡ often x c (held_of trees) + hits x c p
often_added x c [] p = omega arith
often_added x c (None ∷ trees) p = often_added x c trees p
often_added x c (Some q ∷ trees) p = let r = often_added x c trees p in omega arith

-- with one place less
pub often_emptied : (x : Name) (c : Code) (trees : List (Option Held)) (n : ℕ) (p : Held) → tree_in trees n ≡ Some p → often x c (held_of (slice_set trees n None)) + hits x c p ≡ often x c (held_of trees)
often_emptied x c [] n p e = cc
often_emptied x c (None ∷ trees) zero p e = cc
often_emptied x c (Some q ∷ trees) zero p e = let same : q ≡ p = cc in let h : hits x c q ≡ hits x c p = ap (hits x c) same in omega arith
often_emptied x c (None ∷ trees) (suc n) p e = often_emptied x c trees n p e
often_emptied x c (Some q ∷ trees) (suc n) p e = let r = often_emptied x c trees n p e in omega arith

-- where there was none
pub often_empty : (x : Name) (c : Code) (trees : List (Option Held)) (n : ℕ) → tree_in trees n ≡ None → often x c (held_of (slice_set trees n None)) ≡ often x c (held_of trees)
often_empty x c [] n e = refl
often_empty x c (None ∷ trees) zero e = refl
often_empty x c (Some q ∷ trees) zero e = cc
often_empty x c (None ∷ trees) (suc n) e = often_empty x c trees n e
often_empty x c (Some q ∷ trees) (suc n) e = let r = often_empty x c trees n e in omega arith

-- a pass has the pair of a place
pub has_in : (trees : List (Option Held)) (l : List Held) (n : ℕ) (p : Held) → Within (held_of trees) l → tree_in trees n ≡ Some p → Has l p
has_in trees l n p w e = let a = w p.name p.code in let b = often_emptied p.name p.code trees n p e in let h = hits_self p in omega arith

pub has_some : (trees : List (Option Held)) (l : List Held) (n : ℕ) (o : Option Held) → Within (held_of trees) l → o ≡ tree_in trees n → IfSome o (Has l)
has_some trees l n None w e = tt
has_some trees l n (Some p) w e = has_in trees l n p w (sym e)

-- the last place
pub often_last : (x : Name) (c : Code) (trees : List (Option Held)) (o : Option Held) → often x c (held_of (trees ++ o ∷ [])) ≡ often x c (held_of trees) + often x c (held_of (o ∷ []))
often_last x c [] o = omega arith
often_last x c (None ∷ trees) o = often_last x c trees o
often_last x c (Some q ∷ trees) o = let r = often_last x c trees o in omega arith

pub last_has : (trees : List (Option Held)) (l : List Held) (o : Option Held) → Within (held_of (trees ++ o ∷ [])) l → IfSome o (Has l)
last_has trees l None w = tt
last_has trees l (Some p) w = let a = w p.name p.code in let b = often_last p.name p.code trees (Some p) in let h = hits_self p in omega arith

pub often_less : (x : Name) (c : Code) (l l' : List Held) (o : Option Held) → MatchOption o (l' ≡ l) (λ p. More p l' l) → often x c l ≡ often x c l' + often x c (held_of (o ∷ []))
often_less x c l l' None less = let b : often x c l' ≡ often x c l = ap (often x c) less in omega arith
often_less x c l l' (Some p) less = let b = less x c in omega arith

-- names that a pass has decide trees
pub names_tell : (l : List Held) (p q : Held) → NamesDecideTrees l l → Has l p → Has l q → ((p.name ≡ q.name) ↔ IsTrue (isomorphic (tree_of p.code) (tree_of q.code)))
names_tell l p q decide hp hq =
    let i = often_at p.name p.code l hp in
    let j = often_at q.name q.code l hq in
    decide i.0 j.0 p q i.1 j.1

-- so a session compares by names
pub compared_yes : (trees : List (Option Held)) (l : List Held) (i j : ℕ) (p q : Held) → Within (held_of trees) l → NamesDecideTrees l l → tree_in trees i ≡ Some p → tree_in trees j ≡ Some q → p.name ≡ q.name
    → Yes ≡ compared_codes (code_in trees i) (code_in trees j)
compared_yes trees l i j p q w decide ei ej same =
    rw (ei, ej) (sym (ap yes_or_no ((names_tell l p q decide (has_in trees l i p w ei) (has_in trees l j q w ej)).0 same)))

pub compared_no : (trees : List (Option Held)) (l : List Held) (i j : ℕ) (p q : Held) → Within (held_of trees) l → NamesDecideTrees l l → tree_in trees i ≡ Some p → tree_in trees j ≡ Some q → p.name ≢ q.name
    → No ≡ compared_codes (code_in trees i) (code_in trees j)
compared_no trees l i j p q w decide ei ej apart =
    rw (ei, ej) (sym (ap yes_or_no (false_from_ne_true _ (λ t. apart ((names_tell l p q decide (has_in trees l i p w ei) (has_in trees l j q w ej)).1 t)))))

-- the last of the trees that are left is given back
pub back_one : (start before after : List Held) (rest trees all : List (Option Held)) (o : Option Held) → trees ≡ rest ++ o ∷ [] → MatchOption o (after ≡ before) (λ p. More p after before) → Within (held_of trees) before
    → ((x : Name) (c : Code) → often x c start + often x c (held_of trees) ≡ often x c before + often x c (held_of all))
    → Within (held_of rest) after × ((x : Name) (c : Code) → often x c start + often x c (held_of rest) ≡ often x c after + often x c (held_of all))
back_one start before after rest trees all o is less within counts =
    let last : (x : Name) (c : Code) → often x c (held_of trees) ≡ often x c (held_of rest) + often x c (held_of (o ∷ [])) =
    λ x c. subst (λ (ts : List (Option Held)). often x c (held_of ts) ≡ often x c (held_of rest) + often x c (held_of (o ∷ []))) (sym is) (often_last x c rest o) in (
      λ x c. let a = last x c in let b = often_less x c before after o less in let w = within x c in omega arith,
      λ x c. let a = last x c in let b = often_less x c before after o less in let n = counts x c in omega arith,
    )

-- what a pass has is what it holds under the name
pub has_times : (l : List Held) (p : Held) → Has l p → 0 < times p.name l
has_times l p h = let a = often_times p.name p.code l in omega arith

pub has_code : (l : List Held) (p : Held) → Sound l → Has l p → code_at p.name l ≡ p.code
has_code l p s h = code_is p.name p.code l s h

-- what has come is there
pub has_more : (l m : List Held) (p : Held) → More p l m → Has m p
has_more l m p more = let a = more p.name p.code in let h = hits_self p in omega arith

pub has_same : (l m : List Held) (p : Held) → Same l m → Has l p → Has m p
has_same l m p same h = let a = same p.name p.code in omega arith

-- ---- the codes of the places
none_is_not : (c : Code) → None ≡ Some c → ⊥
none_is_not c e = cc

no_tree : (x : LiveTree) → None ≡ Some x → ⊥
no_tree x e = cc

some_is : (x y : LiveTree) → Some x ≡ Some y → x ≡ y
some_is x y e = cc

code_front : (xs ys : List (Option Held)) (n : ℕ) (c : Code) → code_in xs n ≡ Some c → code_in (xs ++ ys) n ≡ Some c
code_front [] ys n c e = absurd (none_is_not c e)
code_front (x ∷ xs) ys zero c e = e
code_front (x ∷ xs) ys (suc n) c e = code_front xs ys n c e

code_last : (xs : List (Option Held)) (p : Held) → code_in (xs ++ Some p ∷ []) (length xs) ≡ Some p.code
code_last [] p = refl
code_last (x ∷ xs) p = code_last xs p

code_else : (xs : List (Option Held)) (i j : ℕ) → j ≢ i → code_in (slice_set xs i None) j ≡ code_in xs j
code_else [] i j n = refl
code_else (x ∷ xs) zero zero n = absurd (n refl)
code_else (x ∷ xs) zero (suc j) n = refl
code_else (x ∷ xs) (suc i) zero n = refl
code_else (x ∷ xs) (suc i) (suc j) n = code_else xs i j (λ e. n (ap suc e))

length_emptied : (xs : List (Option Held)) (i : ℕ) → length (slice_set xs i None) ≡ length xs
length_emptied [] i = refl
length_emptied (x ∷ xs) zero = refl
length_emptied (x ∷ xs) (suc i) = ap suc (length_emptied xs i)

-- ---- after a step of the session
pub held-intern : (script : ScriptLines) (trees trees' : List (Option Held)) (old new : State) (tree : ℕ) (code : Code) → AreHeld trees old → Adds code trees trees' → Interns script old new tree code → AreHeld trees' new
held-intern script trees trees' old new tree code held added i =
    let p = pair added.0 code in
    subst (λ (ts : List (Option Held)). AreHeld ts new) (sym added.1)
    (record {
      all = omega (arith, length-append trees (Some p ∷ []), held.all, i.counted);
      each = λ name t found.
          elim (at_cases old.space.live new.space.live i.name name _ i.live) [
            | inl set ↦
                let e = some_is _ t (sym set.value ∙ found) in
                let here : code_in (trees ++ Some p ∷ []) tree ≡ Some code = subst (λ (n : ℕ). code_in (trees ++ Some p ∷ []) n ≡ Some code) (held.all ∙ sym i.next) (code_last trees p) in
                subst (λ (x : LiveTree). code_in (trees ++ Some p ∷ []) x.number ≡ Some x.code) e here
            | inr same ↦ code_front trees (Some p ∷ []) t.number t.code (held.each name t (sym same ∙ found))
          ];
    })

pub held-release : (trees : List (Option Held)) (old new : State) (tree : ℕ) → AreHeld trees old → AreApart old.space.live → Releases old new tree → AreHeld (slice_set trees tree None) new
held-release trees old new tree held apart r = record {
  all = length_emptied trees tree ∙ held.all ∙ sym r.counted;
  each = λ name t found.
      elim (at_cases old.space.live new.space.live r.name name None r.gone) [
        | inl set ↦ absurd (no_tree t (sym set.value ∙ found))
        | inr same ↦
            let was : at name old.space.live ≡ Some t = sym same ∙ found in
            let other : t.number ≢ tree = λ e.
            let here : name ≡ r.name = apart name r.name t r.given was r.was (e ∙ sym r.is) in
            absurd (no_tree t (sym (subst (λ (n : List ℕ). at n new.space.live ≡ None) (sym here) r.gone.here) ∙ found)) in
            code_else trees tree t.number other ∙ held.each name t was
      ];
}

pub held-same : (trees : List (Option Held)) (old new : State) → new.space.live ≡ old.space.live → new.interned ≡ old.interned → AreHeld trees old → AreHeld trees new
held-same trees old new live interned held = record {
  all = held.all ∙ sym interned;
  each = λ name t found. held.each name t (subst (λ l. at name l ≡ Some t) live found);
}

-- two trees are compared truly
pub held-truthful : (script : ScriptLines) (trees : List (Option Held)) (old new : State) (left right : ℕ) → AreHeld trees old → Compares old new left right
    → IsTruthful script new (compared_codes (code_in trees left) (code_in trees right))
held-truthful script trees old new left right held c =
    let first : code_in trees left ≡ Some c.first.code = subst (λ (n : ℕ). code_in trees n ≡ Some c.first.code) c.left_is (held.each c.left_live.0 c.first c.left_live.1) in
    let second : code_in trees right ≡ Some c.second.code = subst (λ (n : ℕ). code_in trees n ≡ Some c.second.code) c.right_is (held.each c.right_live.0 c.second c.right_live.1) in
    let is : IsTrueOf c.first c.second (compared_codes (code_in trees left) (code_in trees right)) = rw (first, second) (truthful_by c.first c.second (isomorphic (tree_of c.first.code) (tree_of c.second.code)) refl) in
    truthful-as script new (asked.Same c.first c.second) (compared_codes (code_in trees left) (code_in trees right)) c.asked is

-- ---- what stands beside the trees stays
pub beside_same : (trees : List (Option Held)) (l l' : List Held) → Same l l' → SameBeside trees l trees l'
beside_same trees l l' same x c = let a = same x c in omega arith

pub beside_added : (trees trees' : List (Option Held)) (l l' : List Held) (p : Held) → More p l l' → trees' ≡ trees ++ Some p ∷ [] → SameBeside trees l trees' l'
beside_added trees trees' l l' p more is = subst (λ (ts : List (Option Held)). SameBeside trees l ts l') (sym is) (λ x c. let a = more x c in let b = often_added x c trees p in omega arith)

pub beside_emptied : (trees : List (Option Held)) (n : ℕ) (l l' : List Held) (tree : Option Held) → tree ≡ tree_in trees n → MatchOption tree (l' ≡ l) (λ p. More p l' l) → SameBeside trees l (slice_set trees n None) l'
beside_emptied trees n l l' None is less x c = let a = often_empty x c trees n (sym is) in let b : often x c l' ≡ often x c l = ap (often x c) less in omega arith
beside_emptied trees n l l' (Some p) is less x c = let a = often_emptied x c trees n p (sym is) in let b = less x c in omega arith

pub beside_more : (trees trees' trees'' : List (Option Held)) (l l' l'' : List Held) → SameBeside trees l trees' l' → SameBeside trees' l' trees'' l'' → SameBeside trees l trees'' l''
beside_more trees trees' trees'' l l' l'' a b x c = let p = a x c in let q = b x c in omega arith

-- beside no tree: the pass has those that there are now
pub beside_within : (trees : List (Option Held)) (l l' : List Held) → SameBeside [] l trees l' → Within (held_of trees) l'
beside_within trees l l' b x c = let p = b x c in omega arith

pub beside_back : (trees : List (Option Held)) (l l' l'' : List Held) → SameBeside [] l trees l' → Mores (held_of trees) l'' l' → Same l l''
beside_back trees l l' l'' b back x c = let p = b x c in let q = back x c in omega arith

-- ---- before the first step
pub beside_none : (trees : List (Option Held)) (l : List Held) → trees ≡ [] → SameBeside [] l trees l
beside_none trees l none = subst (λ (ts : List (Option Held)). SameBeside [] l ts l) (sym none) (λ x c. refl)

pub none_held : (trees : List (Option Held)) (s : State) → trees ≡ [] → s.space.live ≡ [] → s.interned ≡ 0 → AreHeld trees s
none_held trees s none live interned = subst (λ (ts : List (Option Held)). AreHeld ts s) (sym none) (record {
  all = sym interned;
  each = λ name t found. absurd (no_tree t (subst (λ l. at name l ≡ Some t) live found));
})
