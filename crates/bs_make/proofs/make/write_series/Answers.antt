use Rattle.std.proofs.Common.{codes}
use Rattle.bs_make.specs.Made.{method_name, series_lines}
use Rattle.bs_make.proofs.Texts.{four_pieces}
use Rattle.bs_make.proofs.make.write_series.Goals as goal

pub returns : goal.returns
unfolding series_lines
returns c = four_pieces c.args.out.now.items (codes "series e exact\n") (codes "series m method ") (method_name c.args.place) (codes "\n") _ _ _ c.in_ok-extend_from_slice.ensures.items c.in_ok-write_method.ensures c.in_ok-extend_from_slice-2.ensures.items
