-- Sound scripts: one more tableau leaves them sound.
use Rattle.std.proofs.Common.{◌≡◌, ◌∙◌, ◌+◌, ◌<◌, sym, ap, ℕ, List, [], ◌∷◌, ◌++◌, length, arith}
use Rattle.std.proofs.lemmas.List.{length-append}
use Rattle.bs_tableau.specs.Table.{Table}
use Rattle.bs_script.specs.declared.TheConstants.{MAX_TABLES}
use Rattle.bs_script.specs.Blocks.{ScriptLines, IsSound, with_table}

pub IsSound-with_table : (s : ScriptLines) (name : List ℕ) (t : Table) → length s.tables < MAX_TABLES → IsSound s → IsSound (with_table s name t)
IsSound-with_table s name t room sound =
    let tables : length (s.tables ++ t ∷ []) ≡ length s.tables + 1 = length-append s.tables (t ∷ []) in
    let names : length (s.table_names ++ name ∷ []) ≡ length s.table_names + 1 = length-append s.table_names (name ∷ []) in
    record {
      named = names ∙ ap (λ n. n + 1) sound.named ∙ sym tables;
      few_tables = omega (arith, room, tables);
      above = λ i h. let below = sound.above i h in omega (arith, below, tables);
      few = sound.few;
    }
