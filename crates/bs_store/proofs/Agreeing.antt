-- Each view agrees on names.
use Rattle.std.proofs.Common.{◌≡◌, ℕ, zero, suc, List, [], ◌∷◌, ◌++◌, sym, ◌∙◌, subst}
use mathlib.Core.Option.{some, some-ne-none, some-injective}
use lib.ListN.{get_elem?}
use Rattle.bs_core.specs.Machine.{State, links_of}
use Rattle.bs_core.specs.Canonical.{Each, Counts, Has, Stands, Canonical, every, link_lists, links_each}
use Rattle.bs_core.specs.declared.table.Held.{Held}
use Rattle.bs_core.specs.declared.table.Entry.{Entry}
use Rattle.bs_core.specs.declared.table.Table.{Table}
use Rattle.bs_core.proofs.Pairs.{each_mono, each_join}
use Rattle.bs_core.proofs.Links.{each_front, each_back, links_from}
use Rattle.bs_core.proofs.Agree.{each_at, stands_agree, stripe_is}
use Rattle.bs_store.specs.declared.view.Numbered.{Numbered}
use Rattle.bs_store.specs.declared.view.Hand.{Hand}
use Rattle.bs_store.specs.declared.view.View.{View}
use Rattle.bs_store.specs.Rule.{Fits, Good, Path, state, held_by}
use Rattle.bs_store.specs.Laws.{pairs_of, InStripe, IsEntryOf, IsTableOf, AgreesOnNames, ViewsAgreeOnNames}
use Rattle.bs_store.proofs.Turns.{HandAt, TableAt}
use Rattle.bs_store.proofs.Rooms.{held_stand}
use Rattle.bs_store.proofs.Trails.{path_stands}

-- the entries with their links
each_entry : (P : Entry → Type 0) (Q : List Held → Type 0) (R : Entry → Type 0) (es : List Entry) → ((e : Entry) → P e → Q (links_of e) → R e) → Each P es → Each Q (links_each es) → Each R es
each_entry P Q R [] f p q = tt
each_entry P Q R (e ∷ es) f p q = (f e p.0 q.0, each_entry P Q R es f p.1 q.1)

entry_links : (Q : List Held → Type 0) (es : List Entry) (j : ℕ) (e : Entry) → Each Q (links_each es) → get_elem? es j ≡ some e → Q (links_of e)
entry_links Q [] j e h at = absurd (some-ne-none e (sym at))
entry_links Q (x ∷ xs) zero e h at = subst (λ (y : Entry). Q (links_of y)) (some-injective x e at) h.0
entry_links Q (x ∷ xs) (suc j) e h at = entry_links Q xs j e h.1 at

module _ (n : ℕ) (ts : List Table) (hs : List Hand) (good : Good n ts hs) where
  abbrev S : Held → Type 0
  S p = Stands ts p

  abbrev G : State
  G = state ts hs

  can : Canonical n G
  can = good.canonical

  in_stripe : (p : Held) → S p → InStripe n p
  in_stripe p s = sym (stripe_is n G p can s)

  all_held : Each (Each S) (held_by hs)
  all_held = each_front (Each S) (held_by hs) (link_lists ts) can.pairs

  hand_stands : (h : Hand) → HandAt hs h → Each S h.held × Each S h.path
  hand_stands h at =
      let held = held_stand ts hs h all_held at in
      (held, path_stands n G h.held h.path can held (each_at (λ (k : Hand). Path ts k.held k.path) hs h.number h good.paths at))

  pairs_stand : (xs : List Hand) → Each (HandAt hs) xs → Each S (pairs_of xs)
  pairs_stand [] e = tt
  pairs_stand (x ∷ xs) e =
      let s = hand_stands x e.0 in
      each_join S x.held (x.path ++ pairs_of xs) s.0 (each_join S x.path (pairs_of xs) s.1 (pairs_stand xs e.1))

  links_stand : (t : Numbered) → TableAt ts t → Each (Each S) (links_each t.table.entries)
  links_stand t at = links_from (Each S) t.number ts t.table at (each_back (Each S) (held_by hs) (link_lists ts) can.pairs)

  table_of_view : (t : Numbered) → TableAt ts t → IsTableOf n t.number t.table
  table_of_view t at =
      let o = can.tables t.number t.table at in
      record {
        slots_differ = o.slots_differ;
        codes_differ = o.codes_differ;
        entries = each_entry (Counts n t.number t.table.mark (every G)) (Each S) (IsEntryOf n t.number t.table.mark) t.table.entries
            (λ e c s. record { below = c.below; code = c.sound; stripe = c.here; full = c.full; links = each_mono S (InStripe n) (links_of e) in_stripe s })
            o.entries (links_stand t at);
      }

  agrees : (v : View) → Fits ts hs v → AgreesOnNames n v
  agrees v f =
      let ps = pairs_of v.hands in
      let stand = pairs_stand v.hands f.hands in
      record {
        whole = each_mono (TableAt ts) (λ (t : Numbered). IsTableOf n t.number t.table) v.tables table_of_view f.tables;
        stripes = each_mono S (InStripe n) ps in_stripe stand;
        entries = λ i j t p at at2 is.
            let s = each_at S ps j p stand at2 in
            let here = each_at (TableAt ts) v.tables i t f.tables at in
            let same : s.0 ≡ t.table = some-injective s.0 t.table (sym (subst (λ k. get_elem? ts k ≡ some s.0) is s.1) ∙ here) in
            subst (λ (u : Table). Has p.name.slot p.code u.entries) same s.2;
        pairs = λ i j p q at at2. stands_agree n G p q can (each_at S ps i p stand at) (each_at S ps j q stand at2);
        links = λ i j k l t e q p at at2 at3 at4.
            let all = entry_links (Each S) t.table.entries j e (links_stand t (each_at (TableAt ts) v.tables i t f.tables at)) at2 in
            stands_agree n G q p can (each_at S (links_of e) k q all at3) (each_at S ps l p stand at4);
      }

pub views_agree : ViewsAgreeOnNames
views_agree n m views kept = each_mono (Fits kept.tables kept.hands) (AgreesOnNames n) views (agrees n kept.tables kept.hands kept.good) kept.each
