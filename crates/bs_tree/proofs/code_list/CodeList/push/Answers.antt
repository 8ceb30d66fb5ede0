use Rattle.std.proofs.Common.{◌≡◌, ◌∙◌, sym, ap, arith, ◌+◌, ◌-◌, ℕ, List, drop, replicate, length, set}
use Rattle.std.proofs.lemmas.List.{drop-drop, drop-set-lt, drop-replicate, length-take-le}
use Rattle.std.proofs.Math.ListN.{length-set}
use Rattle.bs_tree.specs.CodeBack.{code_padding}
use Rattle.bs_tree.specs.declared.TheConstants.{MAX_NODES}
use Rattle.bs_tree.proofs.code_list.CodeList.push.Goals as goal

pad : (len : ℕ) (codes : List (List (ℕ × ℕ))) (code : List (ℕ × ℕ)) → drop len codes ≡ replicate (MAX_NODES - len) code_padding → drop (len + 1) (set codes len code) ≡ replicate (MAX_NODES - (len + 1)) code_padding
pad len codes code h =
    drop-set-lt (len + 1) codes len code (omega arith) ∙ sym (drop-drop 1 len codes) ∙ ap (drop 1) h ∙ drop-replicate 1 (MAX_NODES - len) code_padding
    ∙ ap (λ (n : ℕ). replicate n code_padding) (omega arith)

pub invariant_of-self : goal.invariant_of-self
invariant_of-self c =
    let s = c.self.inside in (
      length-set s.codes s.len c.args.code ∙ c.self.invariant.0,
      omega (arith, ap length c.self.view_is, length-take-le s.len s.codes),
      pad s.len s.codes c.args.code c.self.invariant.2,
    )
