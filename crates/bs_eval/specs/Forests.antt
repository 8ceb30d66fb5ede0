-- Products of the values of a series over the trees of a forest, kept by the forest's number.
--
--   product_at forests id n   == the product that is kept there
--   ListAdds c c'             == the products of c' stand in c
--   ListTakes c c' n x        == the products of c' stand in c, but for x at place n
--   ListsAdd cs cs'           == the products of the lists cs' stand in the lists cs
--
-- Source: this project.
use Rattle.std.specs.Prelude.{◌≡◌, ℕ, ◌⊎◌, List, Option, Some, None, slice_get}
use Rattle.bs_frac.specs.Gathered.{Multiplied}
use Rattle.bs_eval.specs.declared.forests.Products.{Products}
use Rattle.bs_eval.specs.declared.forests.Forests.{Forests}

abbrev pub flat : Option (Option Multiplied) → Option Multiplied
flat None = None
flat (Some o) = o

abbrev pub in_list : Option Products → ℕ → Option Multiplied
in_list None n = None
in_list (Some c) n = flat (slice_get c.products.items n)

abbrev pub product_at : Forests → ℕ → ℕ → Option Multiplied
product_at forests id n = in_list (slice_get forests.lists.items id) n

pub record ListAdds (c c' : Products) : Type 0 where
  pub stands : (n : ℕ) (x : Multiplied) → in_list (Some c') n ≡ Some x → in_list (Some c) n ≡ Some x

pub record ListTakes (c c' : Products) (place : ℕ) (product : Multiplied) : Type 0 where
  pub stands : (n : ℕ) (x : Multiplied) → in_list (Some c') n ≡ Some x → (in_list (Some c) n ≡ Some x) ⊎ ((n ≡ place) × (x ≡ product))

pub record ListsAdd (cs cs' : List Products) : Type 0 where
  pub stands : (id n : ℕ) (x : Multiplied) → in_list (slice_get cs' id) n ≡ Some x → in_list (slice_get cs id) n ≡ Some x
