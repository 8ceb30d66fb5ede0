-- Names and the series that they mean: what a list of names and ids says once each id is replaced by its expression.
use Rattle.std.proofs.Common.{◌≡◌, ℕ, ◌<◌, ◌≤◌, List, [], ◌∷◌, ◌++◌, length, Option, Some, None, Bool, true, false, cond, option_map, arith, refl, sym, ◌∙◌, ap, ap₂, subst}
use Rattle.std.specs.Map.{lookup}
use Rattle.std.specs.Str.{bytes_eq}
use Rattle.bs_series.specs.Series.{Series}
use Rattle.bs_series.specs.Expressions.{series_at, Extends}
use Rattle.bs_names.specs.Names.{at, named, Sets}
use Rattle.bs_names.specs.Space.{Space, Finds, meant, AreIn}
use Rattle.bs_names.specs.declared.live.LiveTree.{LiveTree}
use Rattle.bs_names.proofs.Names.{at-named}

-- ids that are below a number are below a larger one
pub AreIn-grown : {K : Type 0} (n m : ℕ) → n ≤ m → (entries : List (K × ℕ)) → AreIn n entries → AreIn m entries
AreIn-grown n m grows [] all = tt
AreIn-grown n m grows (e ∷ es) all = (let here = all.0 in omega (arith, here, grows), AreIn-grown n m grows es all.1)

-- one id more
pub AreIn-more : {K : Type 0} (n : ℕ) (entries : List (K × ℕ)) (e : K × ℕ) → AreIn n entries → e.1 < n → AreIn n (entries ++ e ∷ [])
AreIn-more n [] e all here = (here, tt)
AreIn-more n (x ∷ xs) e all here = (all.0, AreIn-more n xs e all.1 here)

same_some : (a b : ℕ) → Some a ≡ Some b → a ≡ b
same_some a b e = cc

-- an id that a look-up finds is below the number
pub found_is_in : {K : Type 0} (n : ℕ) (test : K → Bool) (entries : List (K × ℕ)) (id : ℕ) → lookup test entries ≡ Some id → AreIn n entries → id < n
found_is_in n test [] id found all = cc
found_is_in n test (e ∷ es) id found all =
    elim (test e.0) as (λ b. cond b (Some e.1) (lookup test es) ≡ Some id → id < n) [
      | true ↦ λ is. subst (λ k. k < n) (same_some _ _ is) all.0
      | false ↦ λ is. found_is_in n test es id is all.1
    ] found

-- nothing is meant where no id is found
no_id : {X : Type 0} (f : ℕ → X) (o : Option ℕ) → option_map f o ≡ None → o ≡ None
no_id f None e = refl
no_id f (Some id) e = cc

module _ {K : Type 0} (bytes : K → List ℕ) where
  -- a name means the expression at its id
  pub at-meant : (es : List Series) (name : List ℕ) (entries : List (K × ℕ)) → at name (meant bytes es entries) ≡ option_map (series_at es) (at name (named bytes entries))
  at-meant es name [] = refl
  at-meant es name (e ∷ rest) =
      elim (bytes_eq name (bytes e.0)) as (λ b. cond b (Some (series_at es e.1)) (at name (meant bytes es rest)) ≡ option_map (series_at es) (cond b (Some e.1) (at name (named bytes rest)))) [
        | true ↦ refl
        | false ↦ at-meant es name rest
      ]

  pub not_found : (es : List Series) (name : List ℕ) (entries : List (K × ℕ)) → at name (meant bytes es entries) ≡ None → lookup (λ k. bytes_eq name (bytes k)) entries ≡ None
  not_found es name entries free = sym (at-named bytes name entries) ∙ no_id (series_at es) (at name (named bytes entries)) (sym (at-meant es name entries) ∙ free)

  -- a book that grows leaves each name its expression
  pub meant-stays : (old new : List Series) → Extends old new → (entries : List (K × ℕ)) → AreIn (length old) entries → meant bytes new entries ≡ meant bytes old entries
  meant-stays old new extends [] all = refl
  meant-stays old new extends (e ∷ rest) all =
      ap₂ (λ (s : Series) (l : List (List ℕ × Series)). (bytes e.0, s) ∷ l) (extends.stays e.1 all.0) (meant-stays old new extends rest all.1)

  finds_as : (space : Space) (name : List ℕ) (o : Option ℕ) → ((id : ℕ) → o ≡ Some id → id < length space.book) → at name space.series ≡ option_map (series_at space.book) o → Finds space name o
  finds_as space name None below is = is
  finds_as space name (Some id) below is = (below id refl, is)

  -- the id of a name is what the name stands for
  pub finds : (live : List (List ℕ × LiveTree)) (es : List Series) (entries : List (K × ℕ)) (name : List ℕ) (o : Option ℕ) → o ≡ lookup (λ k. bytes_eq name (bytes k)) entries → AreIn (length es) entries → Finds (record { live = live; series = meant bytes es entries; book = es }) name o
  finds live es entries name o is all =
      finds_as (record { live = live; series = meant bytes es entries; book = es }) name o (λ id some. found_is_in (length es) _ entries id (sym is ∙ some) all)
      (at-meant es name entries ∙ ap (option_map (series_at es)) (at-named bytes name entries ∙ sym is))

  -- one name more
  pub Sets-meant : (es : List Series) (name : List ℕ) (id : ℕ) (old new : List (K × ℕ)) → Sets (named bytes old) (named bytes new) name (Some id) → Sets (meant bytes es old) (meant bytes es new) name (Some (series_at es id))
  Sets-meant es name id old new sets = record {
    here = at-meant es name new ∙ ap (option_map (series_at es)) sets.here;
    others = λ q differs. at-meant es q new ∙ ap (option_map (series_at es)) (sets.others q differs) ∙ sym (at-meant es q old);
  }
