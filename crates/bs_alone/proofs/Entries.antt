-- The entries of a search tree whose keys are numbers of codes, read as a sheet.
use Rattle.std.proofs.Common.{◌≡◌, ℕ, Bool, true, false, List, [], ◌∷◌, map, Option, Some, cond, refl, sym, ◌∙◌, ap, ap₂, subst}
use Rattle.std.specs.BTreeMap.{insert_entry}
use Rattle.std.specs.Cmp.{IsTotalOrder, tied_itself}
use Rattle.std.specs.FinMap as finite
use Rattle.std.specs.FinMap.{IsAntisymmetric}
use Rattle.std.specs.Map.{lookup}
use Rattle.std.specs.Ordering.{is_eq, match_ordering}
use Rattle.std.specs.declared.cmp.Ordering.{Ordering}
use Rattle.std.specs.declared.cmp.Ordering.TheVariants.{Less, Equal, Greater}
use Rattle.bs_frac.specs.declared.coef.Coef.{Coef}
use Rattle.bs_tree.specs.Canonical.{pair_cmp as key_cmp}
use Rattle.bs_tree.specs.OrderLaws.{pair_total as key_total, nat_cmp-equal, then-equal_both}
use Rattle.bs_series.specs.SeriesCode.{Code}
use Rattle.bs_alone.specs.Packed.{packed, unpacked, pair_at, entry_at, IsKey, AreKeys, sheet_of}
use Rattle.bs_alone.specs.Sheet.{pair_cmp, kept, kept_with}
use Rattle.bs_alone.proofs.Pairs.{pair_total, same_pair, is_eq-true}

same_key : IsAntisymmetric key_cmp
same_key p q h =
    let both = then-equal_both _ _ h in
    ap₂ (λ (i n : ℕ). let key : ℕ × ℕ = (i, n) in key) (nat_cmp-equal p.0 q.0 both.0) (nat_cmp-equal p.1 q.1 both.1)

tied : {K : Type 0} (R : K → K → Ordering) → IsTotalOrder R → (x y : K) → x ≡ y → is_eq (R x y) ≡ true
tied R o x y e = subst (λ z. is_eq (R x z) ≡ true) e (ap is_eq (tied_itself o x))

both-ways : (a b : Bool) → (a ≡ true → b ≡ true) → (b ≡ true → a ≡ true) → a ≡ b
both-ways true b f g = sym (f refl)
both-ways false true f g = g refl
both-ways false false f g = refl

-- a pair is that of a key exactly where the key is its own
same-test : (i n : ℕ) (code : Code) (key : ℕ × ℕ) → packed code ≡ n → unpacked n ≡ code → IsKey key
    → is_eq (pair_cmp (i, code) (pair_at key)) ≡ is_eq (key_cmp (i, n) key)
same-test i n code key packs back is_key =
    let pair : ℕ × Code = (i, code) in
    let own : ℕ × ℕ = (i, n) in
    both-ways _ _
    (λ h. let e : pair ≡ pair_at key = same_pair pair (pair_at key) (is_eq-true _ h) in
    tied key_cmp key_total own key
    (ap₂ (λ (j m : ℕ). let k : ℕ × ℕ = (j, m) in k) (ap (λ (p : ℕ × Code). p.0) e) (sym packs ∙ ap (λ (p : ℕ × Code). packed p.1) e ∙ is_key)))
    (λ h. let e : own ≡ key = same_key own key (is_eq-true _ h) in
    tied pair_cmp pair_total pair (pair_at key)
    (ap₂ (λ (j : ℕ) (c : Code). let p : ℕ × Code = (j, c) in p) (ap (λ (k : ℕ × ℕ). k.0) e) (sym back ∙ ap (λ (k : ℕ × ℕ). unpacked k.1) e)))

find-entries : (i n : ℕ) (code : Code) → packed code ≡ n → unpacked n ≡ code → (es : List ((ℕ × ℕ) × Coef)) → AreKeys es
    → finite.find pair_cmp (i, code) (map entry_at es) ≡ lookup (λ key. is_eq (key_cmp (i, n) key)) es
find-entries i n code packs back [] keys = refl
find-entries i n code packs back (e ∷ es) keys =
    ap₂ (λ (b : Bool) (o : Option Coef). cond b (Some e.1) o) (same-test i n code e.0 packs back keys.0) (find-entries i n code packs back es keys.1)

shadowed : {A : Type 0} (b : Bool) (x y z : A) → cond b x z ≡ cond b x (cond b y z)
shadowed true x y z = refl
shadowed false x y z = refl

swapped : {A : Type 0} (a b : Bool) (x y z : A) → (a ≡ true → b ≡ true → ⊥) → cond a x (cond b y z) ≡ cond b y (cond a x z)
swapped true true x y z apart = absurd (apart refl refl)
swapped true false x y z apart = refl
swapped false b x y z apart = refl

apart-keys : (q : ℕ × Code) (k l : ℕ × ℕ) → IsKey k → IsKey l → key_cmp k l ≡ Greater
    → is_eq (pair_cmp q (pair_at l)) ≡ true → is_eq (pair_cmp q (pair_at k)) ≡ true → ⊥
apart-keys q k l k_is l_is above at_l at_k =
    let e : pair_at k ≡ pair_at l = sym (same_pair q (pair_at k) (is_eq-true _ at_k)) ∙ same_pair q (pair_at l) (is_eq-true _ at_l) in
    let same : k ≡ l = ap₂ (λ (j m : ℕ). let key : ℕ × ℕ = (j, m) in key) (ap (λ (p : ℕ × Code). p.0) e) (sym k_is ∙ ap (λ (p : ℕ × Code). packed p.1) e ∙ l_is) in
    let is : is_eq (key_cmp k l) ≡ true = tied key_cmp key_total k l same in
    let not : is_eq (key_cmp k l) ≡ false = ap is_eq above in
    cc

-- what a look-up finds after one more entry
find-insert : (q : ℕ × Code) (k : ℕ × ℕ) (v : Coef) (es : List ((ℕ × ℕ) × Coef)) → AreKeys es → IsKey k
    → finite.find pair_cmp q (map entry_at (insert_entry key_cmp es k v)) ≡ cond (is_eq (pair_cmp q (pair_at k))) (Some v) (finite.find pair_cmp q (map entry_at es))
find-insert q k v [] keys key = refl
find-insert q k v (e ∷ es) keys key =
    let found = λ (l : List ((ℕ × ℕ) × Coef)). finite.find pair_cmp q (map entry_at l) in
    let here = λ (l : ℕ × ℕ). is_eq (pair_cmp q (pair_at l)) in
    elim (key_cmp k e.0) as (λ o. key_cmp k e.0 ≡ o → found (match_ordering o ((k, v) ∷ e ∷ es) ((e.0, v) ∷ es) (e ∷ insert_entry key_cmp es k v)) ≡ cond (here k) (Some v) (found (e ∷ es))) [
      | Less ↦ λ h. refl
      | Equal ↦ λ h. subst (λ l. cond (here l) (Some v) (found es) ≡ cond (here k) (Some v) (cond (here l) (Some e.1) (found es))) (same_key k e.0 h) (shadowed (here k) (Some v) (Some e.1) (found es))
      | Greater ↦ λ h.
          ap (cond (here e.0) (Some e.1)) (find-insert q k v es keys.1 key)
          ∙ swapped (here e.0) (here k) (Some e.1) (Some v) (found es) (λ a b. apart-keys q k e.0 key keys.0 h a b)
    ] refl

pub keys-insert : (k : ℕ × ℕ) (v : Coef) (es : List ((ℕ × ℕ) × Coef)) → AreKeys es → IsKey k → AreKeys (insert_entry key_cmp es k v)
keys-insert k v [] keys key = (key, tt)
keys-insert k v (e ∷ es) keys key =
    elim (key_cmp k e.0) as (λ o. AreKeys (match_ordering o ((k, v) ∷ e ∷ es) ((e.0, v) ∷ es) (e ∷ insert_entry key_cmp es k v))) [
      | Less ↦ (key, keys)
      | Equal ↦ keys
      | Greater ↦ (keys.0, keys-insert k v es keys.1 key)
    ]

-- ---- sheets
pub kept-of : (i n : ℕ) (code : Code) (es : List ((ℕ × ℕ) × Coef)) → packed code ≡ n → unpacked n ≡ code → AreKeys es
    → kept (sheet_of es) i code ≡ lookup (λ key. is_eq (key_cmp (i, n) key)) es
kept-of i n code es packs back keys = finite.get-from_entries pair_total (map entry_at es) (i, code) ∙ find-entries i n code packs back es keys

pub is_key-of : (i n : ℕ) (code : Code) → packed code ≡ n → unpacked n ≡ code → IsKey (i, n)
is_key-of i n code packs back = ap packed back ∙ packs

pub sheet_of-insert : (i n : ℕ) (code : Code) (v : Coef) (es : List ((ℕ × ℕ) × Coef)) → packed code ≡ n → unpacked n ≡ code → AreKeys es
    → sheet_of (insert_entry key_cmp es (i, n) v) ≡ kept_with (sheet_of es) i code v
sheet_of-insert i n code v es packs back keys =
    finite.same_map pair_total same_pair _ _ (λ q.
    finite.get-from_entries pair_total (map entry_at (insert_entry key_cmp es (i, n) v)) q
    ∙ find-insert q (i, n) v es keys (is_key-of i n code packs back)
    ∙ ap (cond (is_eq (pair_cmp q (i, unpacked n))) (Some v)) (sym (finite.get-from_entries pair_total (map entry_at es) q))
    ∙ ap (λ (c : Code). cond (is_eq (pair_cmp q (i, c))) (Some v) (finite.get (sheet_of es) q)) back
    ∙ sym (finite.get-insert pair_total (sheet_of es) (i, code) v q))
