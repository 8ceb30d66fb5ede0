-- Isomorphic trees: equal as rooted trees whose children are multisets.
--
--   isomorphic t u         == the colours agree, and the children can be matched one by one
--   isomorphic_lists f g   == for each tree of f, take the first tree of g that is isomorphic to it and not yet
--                             taken; in the end both lists are used up
--
-- Source: Butcher (2021), rooted trees as multisets of children.
-- The code compares canonical sequences.
use Rattle.std.specs.Prelude.{ℕ, Bool, true, false, cond, ◌&&◌, ◌==◌, Option, Some, None, option_map}
use Rattle.bs_tree.specs.Tree.{Forest, none, grow, Tree}

abbrev pub is_empty : Forest → Bool
is_empty none = true
is_empty (grow c kids rest) = false

-- without the first tree that passes
abbrev pub take_first : (ℕ → Forest → Bool) → Forest → Option Forest
take_first p none = None
take_first p (grow d below more) = cond (p d below) (Some more) (option_map (λ f. grow d below f) (take_first p more))

abbrev pub on_left : Option Forest → (Forest → Bool) → Bool
on_left None p = false
on_left (Some f) p = p f

abbrev pub isomorphic_lists : Forest → Forest → Bool
isomorphic_lists none g = is_empty g
isomorphic_lists (grow c kids rest) g =
    on_left (take_first (λ d below. (c == d) && isomorphic_lists kids below) g) (λ left. isomorphic_lists rest left)

abbrev pub isomorphic : Tree → Tree → Bool
isomorphic t u = (t.colour == u.colour) && isomorphic_lists t.below u.below
