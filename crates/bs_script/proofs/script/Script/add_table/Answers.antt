use Rattle.std.proofs.Common.{◌≡◌, ◌∙◌, sym, ap, subst, ◌∷◌, ◌++◌, [], List, ℕ, length, ◌<◌, map, Some, false, arith}
use Rattle.std.specs.BTreeMap as tree
use Rattle.std.specs.Cmp.Lexicographic.{slice_cmp}
use Rattle.std.specs.List.{list_any}
use Rattle.std.specs.Ordering.{nat_cmp}
use Rattle.std.specs.Str.{bytes_eq}
use Rattle.std.proofs.lemmas.List.{length-map, map-append}
use Rattle.bs_script.specs.declared.TheConstants.{MAX_TABLES}
use Rattle.bs_script.specs.Blocks.{IsSound, has_name}
use Rattle.bs_script.specs.Places.{IsIndex}
use Rattle.bs_script.proofs.Places.{IsIndex-more}
use Rattle.bs_script.proofs.Sound.{IsSound-with_table}
use Rattle.bs_script.proofs.script.Script.add_table.Goals as goal

-- the names so far
abbrev names : (c : goal.After-push_reserved-2) → List (List ℕ)
names c = map (λ k. k.items) c.self.inside.names.items

-- they have one more name now
one_more : (c : goal.After-push_reserved-2) → map (λ k. k.items) c.push_reserved.new.self.items ≡ names c ++ c.args.name.now ∷ []
one_more c =
    ap (map (λ k. k.items)) c.push_reserved.ensures.items
    ∙ ap (λ l. map (λ k. k.items) (l ++ c.in_ok-shown.shown ∷ [])) c.in_ok-reserve-2.ensures.items
    ∙ map-append (λ k. k.items) c.self.inside.names.items (c.in_ok-shown.shown ∷ [])
    ∙ ap (λ name. names c ++ name ∷ []) c.in_ok-shown.ensures.items

-- the new name's place is behind them
place : (c : goal.After-push_reserved-2) → c.len.result ≡ length (names c)
place c =
    let room = ap length c.in_ok-reserve-2.ensures.items in
    let all : length (names c) ≡ length c.self.inside.names.items = length-map c.self.inside.names.items (λ k. k.items) in
    omega (arith, c.len.ensures, c.reserve-2.new.self.ok.0, room, all)

fresh : (c : goal.After-push_reserved-2) → list_any (bytes_eq c.args.name.now) (names c) ≡ false
fresh c = subst (λ s. has_name s c.args.name.now ≡ false) (sym c.self.view_is) c.requires.fresh

indexed : (c : goal.After-push_reserved-2) → IsIndex (λ k. k.items) c.insert.new.self.entries (names c ++ c.args.name.now ∷ [])
indexed c =
    let at_place = subst (λ n. tree.UpdatesBy (λ x y. slice_cmp nat_cmp x.items y.items) (λ k. slice_cmp nat_cmp c.in_ok-key.key.items k.items) c.self.inside.places c.insert.new.self (Some n)) (place c) c.in_ok-insert.ensures.updates in
    let of_name = subst (λ name. tree.UpdatesBy (λ x y. slice_cmp nat_cmp x.items y.items) (λ k. slice_cmp nat_cmp name k.items) c.self.inside.places c.insert.new.self (Some (length (names c)))) c.in_ok-key.ensures.items at_place in
    IsIndex-more (λ k. k.items) c.self.inside.places c.insert.new.self (names c) c.args.name.now c.self.invariant.1 (fresh c) of_name

few : (c : goal.After-push_reserved-2) → length c.self.inside.tables.items < MAX_TABLES
few c = subst (λ s. length s.tables < MAX_TABLES) (sym c.self.view_is) c.requires.few

sound : (c : goal.After-push_reserved-2) → IsSound (record { table_names = map (λ k. k.items) c.push_reserved.new.self.items; tables = c.push_reserved-2.new.self.items; sessions = c.self.inside.sessions.items })
sound c =
    let tables = c.push_reserved-2.ensures.items ∙ ap (λ l. l ++ c.args.table ∷ []) c.in_ok-reserve.ensures.items in
    subst (λ l. IsSound (record { table_names = map (λ k. k.items) c.push_reserved.new.self.items; tables = l; sessions = c.self.inside.sessions.items })) (sym tables)
    (subst (λ l. IsSound (record { table_names = l; tables = c.self.inside.tables.items ++ c.args.table ∷ []; sessions = c.self.inside.sessions.items })) (sym (one_more c))
    (IsSound-with_table _ c.args.name.now c.args.table (few c) c.self.invariant.0))

pub invariant_of-self-2 : goal.invariant_of-self-2
invariant_of-self-2 c = (sound c, subst (IsIndex (λ k. k.items) c.insert.new.self.entries) (sym (one_more c)) (indexed c))
