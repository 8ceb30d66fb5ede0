-- One line further.
use Rattle.std.proofs.Common.{◌≡◌, ◌≢◌, ℕ, Bool, true, false, List, [], ◌∷◌, ◌++◌, length, Result, Ok, Err, refl, sym, ap, ◌∙◌, codes, eqb, eq-eqb, arith}
use Rattle.std.proofs.lemmas.Bool.Decides.{nat_tests}
use Rattle.bs_frac.specs.Fraction.{Fraction}
use Rattle.bs_tableau.specs.Table.{Table, row_count}
use Rattle.bs_tableau.specs.Rows.{row_of, outcome_of, after_row}
use Rattle.bs_tableau.specs.Words.{words}
use Rattle.bs_tableau.specs.declared.builder.TableauFault.{TableauFault}
use Rattle.bs_script.specs.Blocks.{ScriptLines, with_table, with_session}
use Rattle.bs_script.specs.Words.{has_bad_byte, is_alone}
use Rattle.bs_script.specs.Lines.{Ahead, kept, last}
use Rattle.bs_script.specs.Grammar.{Place, Outcome, placed, moved, at_line, at_end, from, rest_of, first_line, block_line, row_line, reason_of}
use Rattle.bs_script.specs.Grammar.Place.{outside, in_table, in_session}
use Rattle.bs_script.specs.Reading.{place_at, line_at}
use Rattle.bs_script.specs.declared.TheConstants.{MAX_COMMANDS}
use Rattle.bs_script.specs.declared.reason.Reason.{Reason}
use Rattle.bs_script.specs.declared.reason.Reason.TheVariants.{Byte, Missing, TooMany}

pub turn : (s : ScriptLines) (p : Place) (a b : Ahead) (n : ℕ) (line : List ℕ) → kept a ≡ (n, line) ∷ kept b → last b ≡ last a
    → rest_of s p a ≡ at_line n (moved s p line) (λ m. rest_of m.0 m.1 b)
turn s p a b n line k l = ap (λ x. from s p (last a) x) k ∙ ap (λ z. at_line n (moved s p line) (λ m. from m.0 m.1 z (kept b))) (sym l)

pub refuses : (s : ScriptLines) (p : Place) (a b : Ahead) (n : ℕ) (line : List ℕ) (r : Reason) → kept a ≡ (n, line) ∷ kept b → last b ≡ last a
    → moved s p line ≡ Err r → rest_of s p a ≡ Err (n, r)
refuses s p a b n line r k l e = turn s p a b n line k l ∙ ap (λ x. at_line n x (λ m. rest_of m.0 m.1 b)) e

pub goes : (s : ScriptLines) (p : Place) (a b : Ahead) (n : ℕ) (line : List ℕ) (t : ScriptLines) (q : Place) → kept a ≡ (n, line) ∷ kept b → last b ≡ last a
    → moved s p line ≡ Ok (t, q) → rest_of s p a ≡ rest_of t q b
goes s p a b n line t q k l e = turn s p a b n line k l ∙ ap (λ x. at_line n x (λ m. rest_of m.0 m.1 b)) e

-- no line is left
pub stops : (s : ScriptLines) (p : Place) (a : Ahead) → kept a ≡ [] → rest_of s p a ≡ at_end s p (last a)
stops s p a k = ap (λ x. from s p (last a) x) k

-- the first line of a block
pub opens : (n : ℕ) (r t : Outcome) (a : Ahead) → r ≡ t → at_line n r (λ m. rest_of m.0 m.1 a) ≡ at_line n t (λ m. rest_of m.0 m.1 a)
opens n r t a e = ap (λ x. at_line n x (λ m. rest_of m.0 m.1 a)) e

pub moved-bad : (s : ScriptLines) (p : Place) (line : List ℕ) → has_bad_byte line ≡ true → moved s p line ≡ Err Byte
unfolding moved
moved-bad s p line e = rw e refl

at_start : (s : ScriptLines) (ws : List (List ℕ)) → first_line s ws ≡ line_at s true ws
at_start s [] = refl
at_start s (first ∷ more) = refl

past_start : (s : ScriptLines) (ws : List (List ℕ)) → block_line s ws ≡ line_at s false ws
past_start s [] = refl
past_start s (first ∷ more) = refl

pub moved-outside : (s : ScriptLines) (at_start : Bool) (line : List ℕ) → has_bad_byte line ≡ false → moved s (place_at at_start) line ≡ line_at s at_start (words line)
unfolding moved placed
moved-outside s true line e = rw e (at_start s (words line))
moved-outside s false line e = rw e (past_start s (words line))

pub table_ends : (s : ScriptLines) (name : List ℕ) (t : Table) (line : List ℕ) → has_bad_byte line ≡ false → length t.rows ≡ row_count t
    → is_alone (codes "end") (words line) ≡ true → moved s (in_table name t) line ≡ Ok (with_table s name t, outside)
unfolding moved placed
table_ends s name t line e f h = rw (e, eq-eqb _ _ f, h) refl

pub table_goes_on : (s : ScriptLines) (name : List ℕ) (t : Table) (line : List ℕ) → has_bad_byte line ≡ false → length t.rows ≡ row_count t
    → is_alone (codes "end") (words line) ≡ false → moved s (in_table name t) line ≡ Err Missing
unfolding moved placed
table_goes_on s name t line e f h = rw (e, eq-eqb _ _ f, h) refl

no_eqb : (n m : ℕ) → n ≢ m → eqb n m ≡ false
no_eqb n m h = grind (arith, nat_tests)

pub table_row : (s : ScriptLines) (name : List ℕ) (t : Table) (line : List ℕ) → has_bad_byte line ≡ false → length t.rows ≢ row_count t
    → moved s (in_table name t) line ≡ row_line s name t (row_of t line)
unfolding moved placed
table_row s name t line e f = rw (e, no_eqb _ _ f) refl

-- a line that is the next row
pub row_read : (s : ScriptLines) (name : List ℕ) (t : Table) (r : Result (List Fraction) TableauFault) (u : Unit {0}) → outcome_of r ≡ Ok u
    → row_line s name t r ≡ Ok (s, in_table name (after_row t r))
row_read s name t (Ok row) u e = refl
row_read s name t (Err fault) u e = absurd (cc)

abbrev fault_in : Result (Unit {0}) TableauFault → Outcome
fault_in (Ok u) = Err Missing
fault_in (Err f) = Err (reason_of f)

-- a line that is not
pub row_refused : (s : ScriptLines) (name : List ℕ) (t : Table) (r : Result (List Fraction) TableauFault) (f : TableauFault) → outcome_of r ≡ Err f
    → row_line s name t r ≡ Err (reason_of f)
row_refused s name t (Ok row) f e = absurd (cc)
row_refused s name t (Err fault) f e = ap fault_in e

pub session_ends : (s : ScriptLines) (commands : List (List ℕ)) (line : List ℕ) → has_bad_byte line ≡ false → is_alone (codes "end") (words line) ≡ true
    → moved s (in_session commands) line ≡ Ok (with_session s commands, outside)
unfolding moved placed
session_ends s commands line e h = rw (e, h) refl

pub session_full : (s : ScriptLines) (commands : List (List ℕ)) (line : List ℕ) → has_bad_byte line ≡ false → is_alone (codes "end") (words line) ≡ false
    → length commands ≡ MAX_COMMANDS → moved s (in_session commands) line ≡ Err TooMany
unfolding moved placed
session_full s commands line e h f = rw (e, h, f) refl

pub session_goes_on : (s : ScriptLines) (commands : List (List ℕ)) (line : List ℕ) → has_bad_byte line ≡ false → is_alone (codes "end") (words line) ≡ false
    → length commands ≢ MAX_COMMANDS → moved s (in_session commands) line ≡ Ok (s, in_session (commands ++ line ∷ []))
unfolding moved placed
session_goes_on s commands line e h f = rw (e, h, no_eqb _ _ f) refl
