-- The text of a tree, as of a list of pairs (level, colour).
--
--   levels_text s   == the levels with commas between them
--   colours_text s  == the colours with commas between them
--   tree_text s     == the levels, and where a colour isn't 0 also a colon and the colours
--
-- Source: this project's format of trees.
use Rattle.std.specs.Prelude.{◌≡◌, ℕ, Bool, cond, not, ◌==◌, List, [], ◌∷◌, ◌++◌, map, decimal, codes, refl}
use Rattle.std.specs.List.{join_with_byte, list_any}
use Rattle.std.specs.Fmt.{digits}
use Rattle.bs_levels.specs.Words.{comma}

abbrev pub colon : ℕ
colon = 58

abbrev pub levels_text : List (ℕ × ℕ) → List ℕ
levels_text s = join_with_byte comma (map (λ p. decimal p.0) s)

abbrev pub colours_text : List (ℕ × ℕ) → List ℕ
colours_text s = join_with_byte comma (map (λ p. decimal p.1) s)

-- a colour isn't 0
abbrev pub has_colours : List (ℕ × ℕ) → Bool
has_colours s = list_any (λ p. not (p.1 == 0)) s

abbrev pub tree_text : List (ℕ × ℕ) → List ℕ
tree_text s = cond (has_colours s) (levels_text s ++ colon ∷ colours_text s) (levels_text s)

coloured : tree_text ((1, 0) ∷ (2, 1) ∷ (2, 0) ∷ []) ≡ codes "1,2,2:0,1,0"
unfolding digits
coloured = refl

plain : tree_text ((1, 0) ∷ (2, 0) ∷ (10, 0) ∷ []) ≡ codes "1,2,10"
unfolding digits
plain = refl
