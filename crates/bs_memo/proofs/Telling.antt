-- A key tells its series.
use Rattle.std.proofs.Common.{◌≡◌, List, sym, ap}
use Rattle.bs_tableau.specs.Table.{Table}
use Rattle.bs_series.specs.Series.{Series}
use Rattle.bs_series.specs.SeriesCode.{written_at}
use Rattle.bs_series.proofs.KeyLaws.{keys_decide}
use Rattle.bs_memo.specs.Entries.{KeysTellSeries}

pub keys_tell : KeysTellSeries
keys_tell tables s c keyed t other same = ap (λ (u : Series). written_at tables u c) (sym ((keys_decide t s other keyed).0 same))
