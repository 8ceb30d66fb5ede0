use Rattle.std.proofs.Common.{◌≡◌, ◌+◌, ◌-◌, ◌≤◌, ◌++◌, codes, decimal, flat_map}
use Rattle.bs_make.specs.Draws.{after_draws}
use Rattle.bs_make.specs.Made.{further}
use Rattle.bs_make.proofs.make.write_further.Given as goal

abbrev pub invariant-nodes : goal.invariant-nodes
invariant-nodes l = record {
  some : 1 ≤ l.level;
  few : l.level ≤ l.counter + 1;
  written : l.out.items ++ flat_map (λ level. codes "," ++ decimal level) (further (l.count - l.counter) l.level l.generator)
      ≡ l.fn.out.items ++ flat_map (λ level. codes "," ++ decimal level) (further l.count 1 l.fn.generator);
  stands : after_draws (l.count - l.counter) l.generator ≡ after_draws l.count l.fn.generator;
}
