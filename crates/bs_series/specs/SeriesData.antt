-- A series as ghost data, by which a proof tells two apart.
--
-- Source: the kit.
use Rattle.std.specs.Prelude.{◌≡◌, ℕ, zero, suc, ℤ, pos, negsuc, refl}
use Rattle.std.proofs.Common.{ap, ap₂}
use Rattle.std.specs.Coded.{Coded, code_by}
use base.Stored.{Gv, gnil, gnum, gcons, num}
use Rattle.bs_tree.specs.TreeCode.{coded_gv}
use Rattle.bs_series.specs.Series.{Series, exact, identity, average, method, compose, inverse, adjoint, substitute, modified, modifying, scale}

abbrev whole_data : ℤ → Gv
whole_data (pos n) = gcons (gnum 0) (gnum n)
whole_data (negsuc n) = gcons (gnum 1) (gnum n)

abbrev signed_as : ℕ → ℕ → ℤ
signed_as zero n = pos n
signed_as (suc m) n = negsuc n

abbrev first : Gv → Gv
first gnil = gnil
first (gnum n) = gnil
first (gcons a b) = a

abbrev second : Gv → Gv
second gnil = gnil
second (gnum n) = gnil
second (gcons a b) = b

abbrev data_whole : Gv → ℤ
data_whole g = signed_as (num (first g)) (num (second g))

whole_back : (z : ℤ) → data_whole (whole_data z) ≡ z
whole_back (pos n) = refl
whole_back (negsuc n) = refl

-- a word for the operation, and then its parts
abbrev pub series_data : Series → Gv
series_data (exact k) = gcons (gnum 0) (gnum k)
series_data (identity k) = gcons (gnum 1) (gnum k)
series_data (average k) = gcons (gnum 2) (gnum k)
series_data (method n k) = gcons (gnum 3) (gcons (gnum n) (gnum k))
series_data (compose a b) = gcons (gnum 4) (gcons (series_data a) (series_data b))
series_data (inverse a) = gcons (gnum 5) (series_data a)
series_data (adjoint a) = gcons (gnum 6) (series_data a)
series_data (substitute b a) = gcons (gnum 7) (gcons (series_data b) (series_data a))
series_data (modified a) = gcons (gnum 8) (series_data a)
series_data (modifying a) = gcons (gnum 9) (series_data a)
series_data (scale a c) = gcons (gnum 10) (gcons (series_data a) (gcons (whole_data c.top) (gnum c.bottom)))

-- by the word
abbrev pub data_series : Gv → Series
data_series (gcons (gnum zero) g) = exact (num g)
data_series (gcons (gnum (suc zero)) g) = identity (num g)
data_series (gcons (gnum (suc (suc zero))) g) = average (num g)
data_series (gcons (gnum (suc (suc (suc zero)))) g) = method (num (first g)) (num (second g))
data_series (gcons (gnum (suc (suc (suc (suc zero))))) (gcons a b)) = compose (data_series a) (data_series b)
data_series (gcons (gnum (suc (suc (suc (suc (suc zero)))))) g) = inverse (data_series g)
data_series (gcons (gnum (suc (suc (suc (suc (suc (suc zero))))))) g) = adjoint (data_series g)
data_series (gcons (gnum (suc (suc (suc (suc (suc (suc (suc zero)))))))) (gcons b a)) = substitute (data_series b) (data_series a)
data_series (gcons (gnum (suc (suc (suc (suc (suc (suc (suc (suc zero))))))))) g) = modified (data_series g)
data_series (gcons (gnum (suc (suc (suc (suc (suc (suc (suc (suc (suc zero)))))))))) g) = modifying (data_series g)
data_series (gcons (gnum (suc (suc (suc (suc (suc (suc (suc (suc (suc (suc n))))))))))) (gcons a c)) =
    scale (data_series a) (record { top = data_whole (first c); bottom = num (second c) })
data_series _ = exact 0

pub series_back : (s : Series) → data_series (series_data s) ≡ s
series_back (exact k) = refl
series_back (identity k) = refl
series_back (average k) = refl
series_back (method n k) = refl
series_back (compose a b) = ap₂ compose (series_back a) (series_back b)
series_back (inverse a) = ap inverse (series_back a)
series_back (adjoint a) = ap adjoint (series_back a)
series_back (substitute b a) = ap₂ substitute (series_back b) (series_back a)
series_back (modified a) = ap modified (series_back a)
series_back (modifying a) = ap modifying (series_back a)
series_back (scale a c) =
    ap₂ (λ (x : Series) (z : ℤ). scale x (record { top = z; bottom = c.bottom })) (series_back a) (whole_back c.top)

abbrev pub coded_series : Coded Series
coded_series = code_by Gv coded_gv series_data data_series series_back
