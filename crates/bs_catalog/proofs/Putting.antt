-- Rows that are put behind others: one more row, and those of one more row of the first child.
use Rattle.std.proofs.Common.{◌≡◌, ℕ, zero, suc, ◌+◌, List, [], ◌∷◌, ◌++◌, map, take, drop, length, ◌-◌, ◌≤◌, get_or, Some, slice_get, All, refl, ap, sym, ◌∙◌, subst, arith, append_assoc, append-nil}
use Rattle.std.specs.List.{flat_map}
use Rattle.std.proofs.lemmas.List.{map-append, take_all}
use Rattle.std.proofs.lemmas.Grind.{flat_map-append}
use Rattle.std.proofs.lemmas.Option.{get_or_from_slice_get, slice_get_within}
use Rattle.std.proofs.lemmas.List.Elements.{All-get_or}
use Rattle.bs_catalog.specs.Shelf.{Code, AreNumbers, AreRows}
use Rattle.bs_catalog.specs.declared.way.Way.{Way}
use Rattle.bs_catalog.specs.declared.way.Way.TheVariants.{CutOff, Keep, Join, Sever}
use Rattle.bs_catalog.specs.Making.{attached, merged, made, all_made}
use Rattle.bs_catalog.specs.Memo.{Extends, Makes}
use Rattle.bs_catalog.specs.Puts.{Puts, PutsUnder, PutsAll}
use Rattle.bs_catalog.proofs.Remembering.{makes_of}

abbrev Row : Type 0
Row = List Code

-- ---- numbers stay numbers
pub numbers_more : (cs cs' : List Code) (row : List ℕ) (r : Row) → Extends cs cs' → AreNumbers cs row r → AreNumbers cs' row r
numbers_more cs cs' [] [] e h = tt
numbers_more cs cs' [] (x ∷ r) e h = absurd h
numbers_more cs cs' (n ∷ row) [] e h = absurd h
numbers_more cs cs' (n ∷ row) (x ∷ r) e h = (e n x h.0, numbers_more cs cs' row r e h.1)

pub rows_more : (cs cs' : List Code) (rows : List (List ℕ)) (rs : List Row) → Extends cs cs' → AreRows cs rows rs → AreRows cs' rows rs
rows_more cs cs' [] [] e h = tt
rows_more cs cs' [] (r ∷ rs) e h = absurd h
rows_more cs cs' (row ∷ rows) [] e h = absurd h
rows_more cs cs' (row ∷ rows) (r ∷ rs) e h = (numbers_more cs cs' row r e h.0, rows_more cs cs' rows rs e h.1)

pub numbers_append : (cs : List Code) (row row' : List ℕ) (r r' : Row) → AreNumbers cs row r → AreNumbers cs row' r' → AreNumbers cs (row ++ row') (r ++ r')
numbers_append cs [] row' [] r' h k = k
numbers_append cs [] row' (x ∷ r) r' h k = absurd h
numbers_append cs (n ∷ row) row' [] r' h k = absurd h
numbers_append cs (n ∷ row) row' (x ∷ r) r' h k = (h.0, numbers_append cs row row' r r' h.1 k)

pub rows_push : (cs : List Code) (rows : List (List ℕ)) (rs : List Row) (row : List ℕ) (r : Row) → AreRows cs rows rs → AreNumbers cs row r → AreRows cs (rows ++ row ∷ []) (rs ++ r ∷ [])
rows_push cs [] [] row r h k = (k, tt)
rows_push cs [] (x ∷ rs) row r h k = absurd h
rows_push cs (y ∷ rows) [] row r h k = absurd h
rows_push cs (y ∷ rows) (x ∷ rs) row r h k = (h.0, rows_push cs rows rs row r h.1 k)

-- the last row of some
pub record Parted (cs : List Code) (rows : List (List ℕ)) (row : List ℕ) (rs : List Row) : Type 0 where
  pub before : List Row
  pub last : Row
  pub is : rs ≡ before ++ last ∷ []
  pub before_are : AreRows cs rows before
  pub last_are : AreNumbers cs row last

pub parted : (cs : List Code) (rows : List (List ℕ)) (row : List ℕ) (rs : List Row) → AreRows cs (rows ++ row ∷ []) rs → Parted cs rows row rs
parted cs [] row [] h = absurd h
parted cs [] row (r ∷ []) h = record { before = []; last = r; is = refl; before_are = tt; last_are = h.0 }
parted cs [] row (r ∷ (r' ∷ rs)) h = absurd h.1
parted cs (y ∷ rows) row [] h = absurd h
parted cs (y ∷ rows) row (r ∷ rs) h =
    let p = parted cs rows row rs h.1 in
    record { before = r ∷ p.before; last = p.last; is = ap (λ (xs : List Row). r ∷ xs) p.is; before_are = (h.0, p.before_are); last_are = p.last_are }

-- ---- one row
abbrev IsPut : List (List ℕ) → List (List ℕ) → List ℕ → Type 0
IsPut out out' row = out' ≡ out ++ row ∷ []

put_row : (cs cs' : List Code) (out out' : List (List ℕ)) (row : List ℕ) (done : List Row) (r : Row) → Extends cs cs' → IsPut out out' row → AreRows cs out done → AreNumbers cs' row r → AreRows cs' out' (done ++ r ∷ [])
put_row cs cs' out out' row done r e p h k = subst (λ (rows : List (List ℕ)). AreRows cs' rows (done ++ r ∷ [])) (sym p) (rows_push cs' out done row r (rows_more cs cs' out done e h) k)

pub put_cut_off : (cs : List Code) (head : ℕ) (kept others : List ℕ) (out out' : List (List ℕ)) → IsPut out out' (head ∷ (kept ++ others)) → Puts CutOff cs cs kept (head ∷ others) out out'
put_cut_off cs head kept others out out' p k [] done hk hr h = absurd hr
put_cut_off cs head kept others out out' p k (x ∷ r) done hk hr h =
    put_row cs cs out out' (head ∷ (kept ++ others)) done (x ∷ (k ++ r)) (λ n code i. i) p h (hr.0, numbers_append cs kept others k r hk hr.1)

pub put_kept : (cs cs' : List Code) (head below top : ℕ) (cut others : List ℕ) (out out' : List (List ℕ)) → Extends cs cs' → Makes attached cs' top below head
    → IsPut out out' (head ∷ (cut ++ others)) → Puts Keep cs cs' (below ∷ cut) (top ∷ others) out out'
put_kept cs cs' head below top cut others out out' e m p [] r done hk hr h = absurd hk
put_kept cs cs' head below top cut others out out' e m p (g ∷ k) [] done hk hr h = absurd hr
put_kept cs cs' head below top cut others out out' e m p (g ∷ k) (x ∷ r) done hk hr h =
    put_row cs cs' out out' (head ∷ (cut ++ others)) done (attached x g ∷ (k ++ r)) e p h (
      makes_of attached cs' top below head x g m (e top x hr.0) (e below g hk.0),
      numbers_append cs' cut others k r (numbers_more cs cs' cut k e hk.1) (numbers_more cs cs' others r e hr.1),
    )

pub put_joined : (cs cs1 cs' : List Code) (skeleton head hung below top upper : ℕ) (parts others : List ℕ) (out out' : List (List ℕ)) → Extends cs cs1 → Extends cs1 cs'
    → Makes merged cs1 upper hung skeleton → Makes attached cs' top below head
    → IsPut out out' (skeleton ∷ (head ∷ (parts ++ others))) → Puts Join cs cs' (hung ∷ (below ∷ parts)) (upper ∷ (top ∷ others)) out out'
put_joined cs cs1 cs' skeleton head hung below top upper parts others out out' e1 e2 m1 m2 p [] r done hk hr h = absurd hk
put_joined cs cs1 cs' skeleton head hung below top upper parts others out out' e1 e2 m1 m2 p (s ∷ []) r done hk hr h = absurd hk.1
put_joined cs cs1 cs' skeleton head hung below top upper parts others out out' e1 e2 m1 m2 p (s ∷ (g ∷ k)) [] done hk hr h = absurd hr
put_joined cs cs1 cs' skeleton head hung below top upper parts others out out' e1 e2 m1 m2 p (s ∷ (g ∷ k)) (u ∷ []) done hk hr h = absurd hr.1
put_joined cs cs1 cs' skeleton head hung below top upper parts others out out' e1 e2 m1 m2 p (s ∷ (g ∷ k)) (u ∷ (x ∷ r)) done hk hr h =
    let e : Extends cs cs' = λ n code i. e2 n code (e1 n code i) in
    put_row cs cs' out out' (skeleton ∷ (head ∷ (parts ++ others))) done (merged u s ∷ (attached x g ∷ (k ++ r))) e p h (
      e2 skeleton (merged u s) (makes_of merged cs1 upper hung skeleton u s m1 (e1 upper u hr.0) (e1 hung s hk.0)),
      (
        makes_of attached cs' top below head x g m2 (e top x hr.1.0) (e below g hk.1.0),
        numbers_append cs' parts others k r (numbers_more cs cs' parts k e hk.1.1) (numbers_more cs cs' others r e hr.1.1),
      ),
    )

pub put_severed : (cs cs' : List Code) (skeleton hung top upper : ℕ) (parts others : List ℕ) (out out' : List (List ℕ)) → Extends cs cs'
    → Makes attached cs' upper hung skeleton
    → IsPut out out' (skeleton ∷ (top ∷ (parts ++ others))) → Puts Sever cs cs' (hung ∷ parts) (upper ∷ (top ∷ others)) out out'
put_severed cs cs' skeleton hung top upper parts others out out' e m p [] r done hk hr h = absurd hk
put_severed cs cs' skeleton hung top upper parts others out out' e m p (s ∷ k) [] done hk hr h = absurd hr
put_severed cs cs' skeleton hung top upper parts others out out' e m p (s ∷ k) (u ∷ []) done hk hr h = absurd hr.1
put_severed cs cs' skeleton hung top upper parts others out out' e m p (s ∷ k) (u ∷ (x ∷ r)) done hk hr h =
    put_row cs cs' out out' (skeleton ∷ (top ∷ (parts ++ others))) done (attached u s ∷ (x ∷ (k ++ r))) e p h (
      makes_of attached cs' upper hung skeleton u s m (e upper u hr.0) (e hung s hk.0),
      (
        e top x hr.1.0,
        numbers_append cs' parts others k r (numbers_more cs cs' parts k e hk.1) (numbers_more cs cs' others r e hr.1.1),
      ),
    )

-- ---- one more row
pub under_none : (way : Way) (cs : List Code) (kept : List ℕ) (out : List (List ℕ)) → PutsUnder way cs cs kept [] out out
under_none way cs kept out k [] done hk hr h = subst (λ (rs : List Row). AreRows cs out rs) (sym (append-nil done)) h
under_none way cs kept out k (r ∷ rs) done hk hr h = absurd hr

pub under_more : (way : Way) (cs cs1 cs2 : List Code) (kept : List ℕ) (rows : List (List ℕ)) (row : List ℕ) (out out1 out2 : List (List ℕ)) → Extends cs cs1
    → PutsUnder way cs cs1 kept rows out out1 → Puts way cs1 cs2 kept row out1 out2 → PutsUnder way cs cs2 kept (rows ++ row ∷ []) out out2
under_more way cs cs1 cs2 kept rows row out out1 out2 e a b k rs done hk hr h =
    let p = parted cs rows row rs hr in
    let first = a k p.before done hk p.before_are h in
    let second : AreRows cs2 out2 ((done ++ map (made way k) p.before) ++ made way k p.last ∷ []) =
    b k p.last (done ++ map (made way k) p.before) (numbers_more cs cs1 kept k e hk) (numbers_more cs cs1 row p.last e p.last_are) first in
    let same : (done ++ map (made way k) p.before) ++ made way k p.last ∷ [] ≡ done ++ map (made way k) rs =
    append_assoc done (map (made way k) p.before) (made way k p.last ∷ [])
    ∙ ap (λ (xs : List Row). done ++ xs) (sym (map-append (made way k) p.before (p.last ∷ [])) ∙ ap (map (made way k)) (sym p.is)) in
    subst (λ (xs : List Row). AreRows cs2 out2 xs) same second

pub all_none : (way : Way) (cs : List Code) (rest out : List (List ℕ)) → PutsAll way cs cs [] rest out out
all_none way cs rest out [] rs done hk hr h = subst (λ (rs : List Row). AreRows cs out rs) (sym (append-nil done)) h
all_none way cs rest out (k ∷ ks) rs done hk hr h = absurd hk

pub all_more : (way : Way) (cs cs1 cs2 : List Code) (kids : List (List ℕ)) (kept : List ℕ) (rest out out1 out2 : List (List ℕ)) → Extends cs cs1
    → PutsAll way cs cs1 kids rest out out1 → PutsUnder way cs1 cs2 kept rest out1 out2 → PutsAll way cs cs2 (kids ++ kept ∷ []) rest out out2
all_more way cs cs1 cs2 kids kept rest out out1 out2 e a b ks rs done hk hr h =
    let p = parted cs kids kept ks hk in
    let first = a p.before rs done p.before_are hr h in
    let second : AreRows cs2 out2 ((done ++ all_made way p.before rs) ++ map (made way p.last) rs) =
    b p.last rs (done ++ all_made way p.before rs) (numbers_more cs cs1 kept p.last e p.last_are) (rows_more cs cs1 rest rs e hr) first in
    let row : Row → List Row = λ k. map (made way k) rs in
    let same : (done ++ all_made way p.before rs) ++ map (made way p.last) rs ≡ done ++ all_made way ks rs =
    append_assoc done (all_made way p.before rs) (map (made way p.last) rs)
    ∙ ap (λ (xs : List Row). done ++ xs)
    (ap (λ (xs : List Row). all_made way p.before rs ++ xs) (sym (append-nil (map (made way p.last) rs))) ∙ sym (flat_map-append row p.before (p.last ∷ [])) ∙ ap (flat_map row) (sym p.is)) in
    subst (λ (xs : List Row). AreRows cs2 out2 xs) same second

-- ---- the rows that are read one after another
pub next_row : (rows : List (List ℕ)) (i : ℕ) (row : List ℕ) → slice_get rows i ≡ Some row → take (i + 1) rows ≡ take i rows ++ row ∷ []
next_row [] i row h = absurd (cc)
next_row (x ∷ rows) zero row h = let e : x ≡ row = cc in ap (λ (y : List ℕ). y ∷ []) e
next_row (x ∷ rows) (suc i) row h =
    let e : suc i + 1 ≡ suc (i + 1) = omega arith in
    ap (λ (n : ℕ). take n (x ∷ rows)) e ∙ ap (λ (ys : List (List ℕ)). x ∷ ys) (next_row rows i row h)

-- ---- a row by its first numbers
pub one_of : (x : ℕ) (row rest : List ℕ) → row ≡ x ∷ drop 1 row → rest ≡ drop 1 row → x ∷ rest ≡ row
one_of x row rest e r = ap (λ (ys : List ℕ). x ∷ ys) r ∙ sym e

pub two_of : (x y : ℕ) (row mid rest : List ℕ) → row ≡ x ∷ drop 1 row → mid ≡ drop 1 row → mid ≡ y ∷ drop 1 mid → rest ≡ drop 1 mid → x ∷ (y ∷ rest) ≡ row
two_of x y row mid rest e m f r = ap (λ (ys : List ℕ). x ∷ ys) (one_of y mid rest f r) ∙ one_of x row mid e m

pub longer_behind : (n : ℕ) (row mid : List ℕ) → suc n ≤ length row → mid ≡ drop 1 row → n ≤ length mid
longer_behind n [] mid h e = absurd (omega arith)
longer_behind n (x ∷ row) mid h e = omega (arith, ap length e)

-- ---- rows that are long enough
pub all_long : {X : Type 0} (P : X → Type 0) (xs : List X) (i : ℕ) (x : X) → All P xs → slice_get xs i ≡ Some x → P x
all_long {X} P xs i x h e =
    subst P (get_or_from_slice_get xs i x x e) (All-get_or P xs i x (slice_get_within xs i x e) h)
