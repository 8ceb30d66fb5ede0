use Rattle.std.proofs.Common.{◌≡◌, ◌++◌, ◌-◌, ◌∷◌, [], List, ℕ, ap, subst, sym, ◌∙◌}
use Rattle.bs_tree.specs.Code.{IsCode}
use Rattle.bs_enum.specs.Successor.{chain}
use Rattle.bs_enum.proofs.Left.{first_listed}
use Rattle.bs_enum.proofs.Facts.{listed_code}
use Rattle.bs_enum.proofs.successor.first.Goals as goal

pub of_canonical-requires : goal.of_canonical-requires
of_canonical-requires c =
    let s : List (ℕ × ℕ) = (1, c.args.colours - 1) ∷ chain 1 c.args.colours (c.args.order - 1) in
    let root : c.push.new.self ≡ (1, c.args.colours - 1) ∷ [] = c.push.ensures ∙ ap (λ (ps : List (ℕ × ℕ)). ps ++ (1, c.args.colours - 1) ∷ []) c.new-pairs.ensures in
    let whole : c.push_chain.new.pairs ≡ s = c.push_chain.ensures ∙ ap (λ (ps : List (ℕ × ℕ)). ps ++ chain 1 c.args.colours (c.args.order - 1)) root in
    subst IsCode (sym whole)
    (listed_code c.args.order c.args.colours s c.requires.few_nodes c.requires.few_colours (first_listed c.args.order c.args.colours c.requires.some_nodes c.requires.some_colours))
