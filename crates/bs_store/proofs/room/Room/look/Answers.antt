use Rattle.std.proofs.Common.{◌≡◌, ◌+◌, ◌<◌, List, [], ◌∷◌, ◌++◌, length, refl, sym, ap, ◌∙◌, subst, arith, Option}
use Rattle.std.specs.Prelude.{IsSome, IfSome}
use Rattle.bs_tree.specs.Code.{root_colour}
use Rattle.bs_core.specs.Codes.{children}
use Rattle.bs_core.specs.Keys.{Key}
use Rattle.bs_core.specs.Machine.{times, code_at}
use Rattle.bs_core.specs.declared.name.Name.{Name}
use Rattle.bs_core.specs.declared.table.Table.{Table}
use Rattle.bs_stripe.specs.declared.place.Entry.{Entry}
use Rattle.bs_store.specs.declared.view.Hand.{Hand}
use Rattle.bs_store.specs.Rule.{lasts, links_at}
use Rattle.bs_store.specs.Seats.{InRoom, first_hand, first_table}
use Rattle.bs_store.specs.Reading.{backwards}
use Rattle.bs_store.proofs.Readers.{entry_on}
use Rattle.bs_store.proofs.room.Room.look.Goals as goal

pub key-key-requires : goal.key-key-requires
key-key-requires g c =
    let i = c.self.invariant in
    let v = c.self.inside.seat.me.0 in
    let hands = sym (ap (λ (r : InRoom). r.hands) c.self.view_is) in
    let last = subst (λ (hs : List Hand). lasts hs ≡ first_hand (lasts hs) ∷ []) hands c.requires.last in
    let there = subst (λ (hs : List Hand). 0 < times c.args.next.name (first_hand (lasts hs)).path) hands c.requires.there in
    let e = entry_on c.self.inside.number (first_table v.tables) v (first_hand (lasts v.hands)) c.args.next.name c.self.inside.stripe i.4 i.2 last i.3 (c.requires.stripe ∙ sym (ap (λ (r : InRoom). r.number) c.self.view_is)) there in
    subst IsSome (sym e.here) refl

pub push_backwards-requires : goal.push_backwards-requires
push_backwards-requires g c =
    let i = c.self.invariant in
    let v = c.self.inside.seat.me.0 in
    let hands = sym (ap (λ (r : InRoom). r.hands) c.self.view_is) in
    let last = subst (λ (hs : List Hand). lasts hs ≡ first_hand (lasts hs) ∷ []) hands c.requires.last in
    let there = subst (λ (hs : List Hand). 0 < times c.args.next.name (first_hand (lasts hs)).path) hands c.requires.there in
    let e = entry_on c.self.inside.number (first_table v.tables) v (first_hand (lasts v.hands)) c.args.next.name c.self.inside.stripe i.4 i.2 last i.3 (c.requires.stripe ∙ sym (ap (λ (r : InRoom). r.number) c.self.view_is)) there in
    let key = subst (λ (o : Option Entry). IfSome o (λ k. c.key-key.result.now ≡ k.key)) e.here c.key-key.ensures in
    let links : c.children.result.now ≡ e.entry.links = c.children.ensures.value ∙ ap (λ (k : Key). k.children) key in
    let long = ap (λ (ns : List Name). length ns) links in
    let all = e.all in
    let room = ap (λ (hs : List Hand). length (children (code_at c.args.next.name (first_hand (lasts hs)).path))) hands in
    let few = c.requires.room in omega arith

pub returns-clause-colour : goal.returns-clause-colour
returns-clause-colour g c =
    let i = c.self.invariant in
    let v = c.self.inside.seat.me.0 in
    let hands = sym (ap (λ (r : InRoom). r.hands) c.self.view_is) in
    let last = subst (λ (hs : List Hand). lasts hs ≡ first_hand (lasts hs) ∷ []) hands c.requires.last in
    let there = subst (λ (hs : List Hand). 0 < times c.args.next.name (first_hand (lasts hs)).path) hands c.requires.there in
    let e = entry_on c.self.inside.number (first_table v.tables) v (first_hand (lasts v.hands)) c.args.next.name c.self.inside.stripe i.4 i.2 last i.3 (c.requires.stripe ∙ sym (ap (λ (r : InRoom). r.number) c.self.view_is)) there in
    let key = subst (λ (o : Option Entry). IfSome o (λ k. c.key-key.result.now ≡ k.key)) e.here c.key-key.ensures in
    c.colour.ensures.value ∙ ap (λ (k : Key). k.colour) key ∙ ap root_colour e.code ∙ ap (λ (hs : List Hand). root_colour (code_at c.args.next.name (first_hand (lasts hs)).path)) (sym hands)

pub returns-clause-all : goal.returns-clause-all
returns-clause-all g c =
    let i = c.self.invariant in
    let v = c.self.inside.seat.me.0 in
    let hands = sym (ap (λ (r : InRoom). r.hands) c.self.view_is) in
    let last = subst (λ (hs : List Hand). lasts hs ≡ first_hand (lasts hs) ∷ []) hands c.requires.last in
    let there = subst (λ (hs : List Hand). 0 < times c.args.next.name (first_hand (lasts hs)).path) hands c.requires.there in
    let e = entry_on c.self.inside.number (first_table v.tables) v (first_hand (lasts v.hands)) c.args.next.name c.self.inside.stripe i.4 i.2 last i.3 (c.requires.stripe ∙ sym (ap (λ (r : InRoom). r.number) c.self.view_is)) there in
    ap (λ (t : Table). length (links_at c.args.next.name.slot t.entries)) (sym (ap (λ (r : InRoom). r.table) c.self.view_is)) ∙ ap (λ (ns : List Name). length ns) e.links ∙ e.all ∙ ap (λ (hs : List Hand). length (children (code_at c.args.next.name (first_hand (lasts hs)).path))) (sym hands)

pub returns-clause-links : goal.returns-clause-links
returns-clause-links g c =
    let i = c.self.invariant in
    let v = c.self.inside.seat.me.0 in
    let hands = sym (ap (λ (r : InRoom). r.hands) c.self.view_is) in
    let last = subst (λ (hs : List Hand). lasts hs ≡ first_hand (lasts hs) ∷ []) hands c.requires.last in
    let there = subst (λ (hs : List Hand). 0 < times c.args.next.name (first_hand (lasts hs)).path) hands c.requires.there in
    let e = entry_on c.self.inside.number (first_table v.tables) v (first_hand (lasts v.hands)) c.args.next.name c.self.inside.stripe i.4 i.2 last i.3 (c.requires.stripe ∙ sym (ap (λ (r : InRoom). r.number) c.self.view_is)) there in
    let key = subst (λ (o : Option Entry). IfSome o (λ k. c.key-key.result.now ≡ k.key)) e.here c.key-key.ensures in
    let links : c.children.result.now ≡ links_at c.args.next.name.slot c.args.self.now.table.entries = c.children.ensures.value ∙ ap (λ (k : Key). k.children) key ∙ sym e.links ∙ ap (λ (r : InRoom). links_at c.args.next.name.slot r.table.entries) c.self.view_is in
    c.push_backwards.ensures ∙ ap (λ (ns : List Name). c.args.pending.now.items ++ backwards (c.args.next.depth + 1) ns) links
