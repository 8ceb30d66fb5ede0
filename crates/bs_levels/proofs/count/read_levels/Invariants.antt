use Rattle.bs_levels.specs.Words.{largest_level}
use Rattle.bs_levels.proofs.Rest.{IsClimbing, IsColumn, size}
use Rattle.bs_levels.proofs.count.read_levels.Given as goal

abbrev pub invariant-levels : goal.invariant-levels
invariant-levels l = record {
  climbing : IsClimbing l.fn.word l.first l.last l.count l.rest;
  column : IsColumn largest_level l.fn.word l.numbers.items l.count l.rest;
}

abbrev pub decreases-levels : goal.decreases-levels
decreases-levels l = size l.rest
