use Rattle.std.proofs.Common.{◌≡◌, ◌==◌, ◌-◌, sym, ap, ap₂, ◌∙◌, List, ℕ}
use lib.ListN.{get_or, set}
use Rattle.std.specs.List.{remove}
use Rattle.bs_core.specs.Machine.{most}
use Rattle.bs_core.specs.declared.table.Entry.{Entry}
use Rattle.bs_core.proofs.Places.{found_at, not_found, by_slot, SlotHit, SlotMiss, lower_gone, lower_less, lower_most, less, found_same}
use Rattle.bs_core.proofs.table.Entries.lower.Goals as goal

pub returns-then-count-eq1 : goal.returns-then-count-eq1
returns-then-count-eq1 c =
    let s = c.args.slot in
    let l = c.args.self.now in
    let k = c.in-Some.place in
    let d = c.index.result.now in
    let f = found_at (λ (p : Entry). s == p.slot) l (SlotHit s l) (SlotMiss s l) k (by_slot s l) (sym c.place_of.ensures ∙ c.in-Some.is) in
    let here : d ≡ get_or l k d = c.index.ensures ∙ ap (λ (w : List Entry). get_or w k d) c.self.view_is in
    c.take_out.ensures ∙ ap (λ (w : List Entry). remove w k) c.self.view_is ∙ sym (lower_gone s k l d f.1 (ap (λ (e : Entry). e.count) (sym here) ∙ c.if-count-eq1.true))

pub returns-then-count : goal.returns-then-count
returns-then-count c =
    let s = c.args.slot in
    let l = c.args.self.now in
    let k = c.in-Some.place in
    let d = c.index.result.now in
    let m = c.index_mut.result.now in
    let f = found_at (λ (p : Entry). s == p.slot) l (SlotHit s l) (SlotMiss s l) k (by_slot s l) (sym c.place_of.ensures ∙ c.in-Some.is) in
    let here : d ≡ get_or l k d = c.index.ensures ∙ ap (λ (w : List Entry). get_or w k d) c.self.view_is in
    let count : (get_or l k d).count ≡ d.count = ap (λ (e : Entry). e.count) (sym here) in
    let step = lower_less s k l d f.0 f.1 (λ q. c.if-count-eq1.false (sym count ∙ q)) (λ q. c.if-count.true (sym count ∙ q)) in
    let there : m ≡ get_or l k m = c.index_mut.ensures.value ∙ ap (λ (w : List Entry). get_or w k m) c.self.view_is in
    let same : get_or l k m ≡ get_or l k d = found_same l k m d f.0 in
    let entry : (let e : Entry = record { slot = m.slot; code = m.code; links = m.links; count = c.saturating_sub.result } in e) ≡ less (get_or l k d) =
    ap₂ (λ (e : Entry) (n : ℕ). let r : Entry = record { slot = e.slot; code = e.code; links = e.links; count = n } in r) (there ∙ same) (c.saturating_sub.ensures ∙ ap (λ (n : ℕ). n - 1) (sym count)) in
    ap₂ (λ (w : List Entry) (e : Entry). set w k e) c.self.view_is entry ∙ sym step

pub returns-else-count : goal.returns-else-count
returns-else-count c =
    let s = c.args.slot in
    let l = c.args.self.now in
    let k = c.in-Some.place in
    let d = c.index.result.now in
    let f = found_at (λ (p : Entry). s == p.slot) l (SlotHit s l) (SlotMiss s l) k (by_slot s l) (sym c.place_of.ensures ∙ c.in-Some.is) in
    let here : d ≡ get_or l k d = c.index.ensures ∙ ap (λ (w : List Entry). get_or w k d) c.self.view_is in
    let count : (get_or l k d).count ≡ d.count = ap (λ (e : Entry). e.count) (sym here) in
    let most_is : d.count ≡ most = c.if-count.false in
    sym (lower_most s k l d f.0 f.1 (count ∙ most_is))

pub returns-in_default : goal.returns-in_default
returns-in_default c =
    let s = c.args.slot in
    let l = c.args.self.now in
    sym (not_found (λ (p : Entry). s == p.slot) l (SlotHit s l) (SlotMiss s l) (by_slot s l) (sym c.place_of.ensures ∙ c.in_default.is)).1
