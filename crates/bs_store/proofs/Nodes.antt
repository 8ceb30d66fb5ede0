-- The steps of the walk of a read.
use Rattle.std.proofs.Common.{◌≡◌, ℕ, suc, zero, ◌+◌, ◌<◌, ◌≤◌, List, [], ◌∷◌, ◌++◌, length, length-append, append-nil, append_assoc, refl, sym, ap, ap₂, ◌∙◌, subst, arith, if◌then◌else◌}
use Rattle.bs_tree.specs.Code.{IsCode, child_codes, root_colour, deeper, all_deeper}
use Rattle.bs_tree.proofs.CodeFacts.{code_joined}
use Rattle.bs_core.specs.Codes.{Code, children}
use Rattle.bs_core.specs.Machine.{times, code_at, linked}
use Rattle.bs_core.specs.Canonical.{Each}
use Rattle.bs_core.specs.Laws.{often}
use Rattle.bs_core.specs.declared.name.Name.{Name}
use Rattle.bs_core.specs.declared.table.Held.{Held}
use Rattle.bs_core.proofs.Basics.{name_test, children_is}
use Rattle.bs_core.proofs.Pairs.{each_mono, each_join, code_of}
use Rattle.bs_core.proofs.Links.{each_front, each_back}
use Rattle.bs_store.specs.declared.walk_read.Pending.{Pending}
use Rattle.bs_store.specs.Walks.{Sound, hits}
use Rattle.bs_store.specs.Reading.{There, entered, backwards, kept, Looks, sunk, all_sunk, Part, marks, spelled, On, Reads}
use Rattle.bs_store.proofs.CodeLists.{order_is, children_codes, many_codes}
use Rattle.bs_store.proofs.Often.{hits_self, often_append, often_times, code_is, first_often}

abbrev pub mark : Name → ℕ → Pending
mark x d = record { name = x; depth = d }

abbrev part : Name → ℕ → Code → Part
part x d c = record { name = x; depth = d; code = c }

-- ---- levels
sunk_zero : (c : Code) → sunk 0 c ≡ c
sunk_zero [] = refl
sunk_zero (p ∷ ps) = let e : 0 + p.0 ≡ p.0 = omega arith in ap₂ (λ (k : ℕ) (qs : Code). (k, p.1) ∷ qs) e (sunk_zero ps)

sunk_append : (d : ℕ) (a b : Code) → sunk d (a ++ b) ≡ sunk d a ++ sunk d b
sunk_append d [] b = refl
sunk_append d (p ∷ ps) b = ap (λ (qs : Code). (d + p.0, p.1) ∷ qs) (sunk_append d ps b)

sunk_deeper : (d : ℕ) (c : Code) → sunk d (deeper c) ≡ sunk (d + 1) c
sunk_deeper d [] = refl
sunk_deeper d (p ∷ ps) = let e : d + suc p.0 ≡ d + 1 + p.0 = omega arith in ap₂ (λ (k : ℕ) (qs : Code). (k, p.1) ∷ qs) e (sunk_deeper d ps)

sunk_all : (d : ℕ) (cs : List Code) → sunk d (all_deeper cs) ≡ all_sunk (d + 1) cs
sunk_all d [] = refl
sunk_all d (c ∷ cs) = sunk_append d (deeper c) (all_deeper cs) ∙ ap₂ (λ (a : Code) (b : Code). a ++ b) (sunk_deeper d c) (sunk_all d cs)

-- a code is its root's pair, and then its children's
sunk_code : (d : ℕ) (c : Code) → IsCode c → sunk d c ≡ (d + 1, root_colour c) ∷ all_sunk (d + 1) (children c)
sunk_code d c e =
    ap (sunk d) (code_joined c e)
    ∙ ap (λ (ps : Code). (d + 1, root_colour c) ∷ ps) (sunk_all d (child_codes c) ∙ ap (all_sunk (d + 1)) (sym (children_is c)))

sunk_long : (d : ℕ) (c : Code) → length (sunk d c) ≡ length c
sunk_long d [] = refl
sunk_long d (p ∷ ps) = ap suc (sunk_long d ps)

-- ---- parts
spelled_append : (us vs : List Part) → spelled (us ++ vs) ≡ spelled vs ++ spelled us
spelled_append [] vs = sym (append-nil (spelled vs))
spelled_append (a ∷ us) vs = ap (λ (ps : Code). ps ++ sunk a.depth a.code) (spelled_append us vs) ∙ append_assoc (spelled vs) (spelled us) (sunk a.depth a.code)

marks_append : (us vs : List Part) → marks (us ++ vs) ≡ marks us ++ marks vs
marks_append [] vs = refl
marks_append (a ∷ us) vs = ap (λ (ps : List Pending). mark a.name a.depth ∷ ps) (marks_append us vs)

marks_long : (ps : List Part) → length (marks ps) ≡ length ps
marks_long [] = refl
marks_long (p ∷ ps) = ap suc (marks_long ps)

spelled_long : (ps : List Part) → Each (λ q. IsCode q.code) ps → length ps ≤ length (spelled ps)
spelled_long [] e = omega arith
spelled_long (p ∷ ps) e = let r = spelled_long ps e.1 in let a = length-append (spelled ps) (sunk p.depth p.code) in let b = sunk_long p.depth p.code in let s = e.0.some in omega arith

-- the parts below links
parts_of : ℕ → List Name → List Code → List Part
parts_of d [] cs = []
parts_of d (x ∷ xs) [] = []
parts_of d (x ∷ xs) (c ∷ cs) = parts_of d xs cs ++ part x d c ∷ []

parts_marks : (d : ℕ) (xs : List Name) (cs : List Code) → length xs ≡ length cs → marks (parts_of d xs cs) ≡ backwards d xs
unfolding parts_of
parts_marks d [] cs e = refl
parts_marks d (x ∷ xs) [] e = absurd (omega arith)
parts_marks d (x ∷ xs) (c ∷ cs) e = marks_append (parts_of d xs cs) (part x d c ∷ []) ∙ ap (λ (ps : List Pending). ps ++ mark x d ∷ []) (parts_marks d xs cs (omega arith))

parts_spelled : (d : ℕ) (xs : List Name) (cs : List Code) → length xs ≡ length cs → spelled (parts_of d xs cs) ≡ all_sunk d cs
unfolding parts_of
parts_spelled d [] [] e = refl
parts_spelled d [] (c ∷ cs) e = absurd (omega arith)
parts_spelled d (x ∷ xs) [] e = absurd (omega arith)
parts_spelled d (x ∷ xs) (c ∷ cs) e = spelled_append (parts_of d xs cs) (part x d c ∷ []) ∙ ap (λ (ps : Code). sunk d c ++ ps) (parts_spelled d xs cs (omega arith))

parts_each : (P : Part → Type 0) (d : ℕ) (xs : List Name) (cs : List Code) → Each (λ p. P (part p.name d p.code)) (linked xs cs) → Each P (parts_of d xs cs)
unfolding parts_of
parts_each P d [] cs h = tt
parts_each P d (x ∷ xs) [] h = tt
parts_each P d (x ∷ xs) (c ∷ cs) h = each_join P (parts_of d xs cs) (part x d c ∷ []) (parts_each P d xs cs h.1) (h.0, tt)

linked_codes : (P : Code → Type 0) (xs : List Name) (cs : List Code) → Each P cs → Each (λ p. P p.code) (linked xs cs)
linked_codes P [] cs h = tt
linked_codes P (x ∷ xs) [] h = tt
linked_codes P (x ∷ xs) (c ∷ cs) h = (h.0, linked_codes P xs cs h.1)

each_often : (l : List Held) → Each (λ p. 1 ≤ often p.name p.code l) l
each_often [] = tt
each_often (p ∷ ps) = (let s = hits_self p in omega arith, each_mono (λ q. 1 ≤ often q.name q.code ps) (λ q. 1 ≤ hits q.name q.code p + often q.name q.code ps) ps (λ q h. omega arith) (each_often ps))

each_any : {A : Type 0} (P : A → Type 0) → ((x : A) → P x) → (xs : List A) → Each P xs
each_any P h [] = tt
each_any P h (x ∷ xs) = (h x, each_any P h xs)

-- ---- the last part of a list whose last mark is known
record LastPart (x : Pending) (xs : List Pending) (ps : List Part) : Type 0 where
  pub front : List Part
  pub code : Code
  pub whole : ps ≡ front ++ part x.name x.depth code ∷ []
  pub marked : marks front ≡ xs

abbrev first_mark : Pending → List Pending → Pending
first_mark d [] = d
first_mark d (z ∷ zs) = z

abbrev later_marks : List Pending → List Pending
later_marks [] = []
later_marks (z ∷ zs) = zs

last_part : (x : Pending) (xs : List Pending) (ps : List Part) → marks ps ≡ xs ++ x ∷ [] → LastPart x xs ps
last_part x [] [] e = absurd (let r : zero ≡ suc zero = ap length e in omega arith)
last_part x (y ∷ ys) [] e = absurd (let r : zero ≡ suc (length (ys ++ x ∷ [])) = ap length e in omega arith)
last_part x [] (p ∷ []) e = let q : mark p.name p.depth ≡ x = ap (first_mark x) e in record { front = []; code = p.code; whole = λ i. part (q i).name (q i).depth p.code ∷ []; marked = refl }
last_part x [] (p ∷ q ∷ ps) e = absurd (let r : suc (suc (length (marks ps))) ≡ suc zero = ap length e in omega arith)
last_part x (y ∷ ys) (p ∷ ps) e =
    let r = last_part x ys ps (ap later_marks e) in
    let q : mark p.name p.depth ≡ y = ap (first_mark y) e in
    record { front = p ∷ r.front; code = r.code; whole = ap (λ (l : List Part). p ∷ l) r.whole; marked = λ i. q i ∷ r.marked i }

-- ---- what a part on the path tells
there_of : (held path : List Held) (q : Part) → On held path q → There q.name held path
there_of held [] q h = let t = often_times q.name q.code held in omega arith
there_of held (p ∷ ps) q h = let t = often_times q.name q.code (p ∷ ps) in omega arith

is_of : (held path : List Held) (q : Part) → Sound held → Sound path → On held path q → code_at q.name (entered q.name held path) ≡ q.code
is_of held [] q s t h = name_test q.name q.name (λ b. (if b then code_at q.name held else (1, 0) ∷ []) ≡ q.code) (λ _. code_is q.name q.code held s h) (λ n. absurd (n refl))
is_of held (p ∷ ps) q s t h = code_is q.name q.code (p ∷ ps) t h

on_more : (x : Name) (held path ks : List Held) (q : Part) → 1 ≤ often q.name q.code (entered x held path ++ ks) → On held (entered x held path ++ ks) q
on_more x held [] ks q h = h
on_more x held (p ∷ ps) ks q h = h

on_front : (x : Name) (held path ks : List Held) (ps : List Part) → (path ≡ [] → length ps ≤ 0) → Each (On held path) ps → Each (On held (entered x held path ++ ks)) ps
on_front x held path ks [] one h = tt
on_front x held [] ks (q ∷ qs) one h = absurd (let r = one refl in omega arith)
on_front x held (p ∷ ps) ks (q ∷ qs) one h = each_mono (On held (p ∷ ps)) (On held (p ∷ (ps ++ ks))) (q ∷ qs) (λ r k. let a = often_append r.name r.code (p ∷ ps) ks in omega arith) h

on_kept : (held l : List Held) (ys : List Pending) (ps : List Part) → marks ps ≡ ys → Each (On held l) ps → Each (On held (kept ys l)) ps
on_kept held l [] [] e h = tt
on_kept held l [] (p ∷ ps) e h = absurd (let r : suc (length (marks ps)) ≡ zero = ap length e in omega arith)
on_kept held l (y ∷ ys) ps e h = h

kept_first : (l : List Held) (ys : List Pending) (ps : List Part) → marks ps ≡ ys → 0 < length l → kept ys l ≡ [] → length ps ≤ 1
kept_first l [] ps e long k = let a = ap length e in let b = marks_long ps in omega arith
kept_first l (y ∷ ys) ps e long k = absurd (let a = ap length k in omega arith)

kept_last : (l : List Held) (ys : List Pending) → ys ≡ [] → kept ys l ≡ []
kept_last l ys e = ap (λ (zs : List Pending). kept zs l) e

entered_long : (x : Name) (held path ks : List Held) → 0 < length (entered x held path ++ ks)
entered_long x held [] ks = omega arith
entered_long x held (p ∷ ps) ks = omega arith

-- ---- the walk
pub reads_begin : (x : Name) (held path : List Held) → Sound held → 0 < times x held → path ≡ [] → Reads (code_at x held) held path [] (mark x 0 ∷ [])
reads_begin x held path s h e =
    let c = code_at x held in
    record {
      parts = part x 0 c ∷ [];
      marked = refl;
      on = (subst (λ (l : List Held). On held l (part x 0 c)) (sym e) (first_often x held h), tt);
      codes = (code_of (λ p. IsCode p.code) x held h s.codes, tt);
      shallow = (omega arith, tt);
      whole = sunk_zero c;
      first = λ _. omega arith;
      last = λ _. e;
    }

-- what is so of the part that is read next
pub record Next (c : Code) (held path : List Held) (read : Code) (xs : List Pending) (n : Pending) : Type 0 where
  pub front : List Part
  pub code : Code
  pub marked : marks front ≡ xs
  pub on : Each (On held path) front
  pub codes : Each (λ q. IsCode q.code) front
  pub shallow : Each (λ q. q.depth ≤ length read) front
  pub whole : read ++ (sunk n.depth code ++ spelled front) ≡ c
  pub sound : IsCode code
  pub there : There n.name held path
  pub is : code_at n.name (entered n.name held path) ≡ code
  pub depth : n.depth ≤ length read
  pub short : length read < length c
  pub room : length xs + length (children code) ≤ length c
  pub first : path ≡ [] → length front ≤ 0

pub next_part : (c : Code) (held path : List Held) (read : Code) (xs : List Pending) (n : Pending) → Sound held → Sound path → Reads c held path read (xs ++ n ∷ []) → Next c held path read xs n
next_part c held path read xs n s t r =
    let l = last_part n xs r.parts r.marked in
    let q = part n.name n.depth l.code in
    let on = subst (Each (On held path)) l.whole r.on in
    let codes = subst (Each (λ (p : Part). IsCode p.code)) l.whole r.codes in
    let shallow = subst (Each (λ (p : Part). p.depth ≤ length read)) l.whole r.shallow in
    let mine = (each_back (On held path) l.front (q ∷ []) on).0 in
    let sound = (each_back (λ (p : Part). IsCode p.code) l.front (q ∷ []) codes).0 in
    let fronts = each_front (λ (p : Part). IsCode p.code) l.front (q ∷ []) codes in
    let whole = ap (λ (ps : Code). read ++ ps) (sym (ap spelled l.whole ∙ spelled_append l.front (q ∷ []))) ∙ r.whole in
    let long : length (read ++ (sunk n.depth l.code ++ spelled l.front)) ≡ length c = ap length whole in
    let a = length-append read (sunk n.depth l.code ++ spelled l.front) in
    let b = length-append (sunk n.depth l.code) (spelled l.front) in
    let d = sunk_long n.depth l.code in
    let e = order_is l.code sound in
    let f = many_codes (children l.code) (children_codes l.code sound) in
    let g = spelled_long l.front fronts in
    let h = ap length l.marked in
    let j = marks_long l.front in
    record {
      front = l.front;
      code = l.code;
      marked = l.marked;
      on = each_front (On held path) l.front (q ∷ []) on;
      codes = fronts;
      shallow = each_front (λ (p : Part). p.depth ≤ length read) l.front (q ∷ []) shallow;
      whole = whole;
      sound = sound;
      there = there_of held path q mine;
      is = is_of held path q s t mine;
      depth = (each_back (λ (p : Part). p.depth ≤ length read) l.front (q ∷ []) shallow).0;
      short = omega arith;
      room = omega arith;
      first = λ z. let k = r.first z in let u = ap length l.whole in let v = length-append l.front (q ∷ []) in omega arith;
    }

pub reads_step : (c : Code) (held path to : List Held) (read : Code) (xs ys : List Pending) (n : Pending) (colour : ℕ) → (p : Next c held path read xs n) → colour ≡ root_colour p.code → Looks n p.code xs ys (entered n.name held path) to → Reads c held to (read ++ (n.depth + 1, colour) ∷ []) ys
reads_step c held path to read xs ys n colour p is k =
    let d = n.depth + 1 in
    let ks = children p.code in
    let P = parts_of d k.links ks in
    let from = entered n.name held path in
    let links = linked k.links ks in
    let marked : marks (p.front ++ P) ≡ ys = marks_append p.front P ∙ ap₂ (λ (a : List Pending) (b : List Pending). a ++ b) p.marked (parts_marks d k.links ks k.all) ∙ sym k.come in
    let mine : Each (On held (from ++ links)) P = parts_each (On held (from ++ links)) d k.links ks (each_mono (λ (q : Held). 1 ≤ often q.name q.code links) (λ (q : Held). On held (from ++ links) (part q.name d q.code)) links (λ q h. on_more n.name held path links (part q.name d q.code) (let a = often_append q.name q.code from links in omega arith)) (each_often links)) in
    let on = each_join (On held (from ++ links)) p.front P (on_front n.name held path links p.front p.first p.on) mine in
    let head : sunk n.depth p.code ≡ (d, colour) ∷ all_sunk d ks = sunk_code n.depth p.code p.sound ∙ ap (λ (z : ℕ). (d, z) ∷ all_sunk d ks) (sym is) in
    let rest : spelled (p.front ++ P) ≡ all_sunk d ks ++ spelled p.front = spelled_append p.front P ∙ ap (λ (a : Code). a ++ spelled p.front) (parts_spelled d k.links ks k.all) in
    let depth = p.depth in
    let long = length-append read ((d, colour) ∷ []) in
    record {
      parts = p.front ++ P;
      marked = marked;
      on = subst (λ (l : List Held). Each (On held l) (p.front ++ P)) (sym k.path) (on_kept held (from ++ links) ys (p.front ++ P) marked on);
      codes = each_join (λ (q : Part). IsCode q.code) p.front P p.codes (parts_each (λ (q : Part). IsCode q.code) d k.links ks (linked_codes IsCode k.links ks (children_codes p.code p.sound)));
      shallow = each_join (λ (q : Part). q.depth ≤ length (read ++ (d, colour) ∷ [])) p.front P
          (each_mono (λ (q : Part). q.depth ≤ length read) (λ (q : Part). q.depth ≤ length (read ++ (d, colour) ∷ [])) p.front (λ q h. omega arith) p.shallow)
          (parts_each (λ (q : Part). q.depth ≤ length (read ++ (d, colour) ∷ [])) d k.links ks (each_any (λ (q : Held). d ≤ length (read ++ (d, colour) ∷ [])) (λ q. omega arith) (linked k.links ks)));
      whole = append_assoc read ((d, colour) ∷ []) (spelled (p.front ++ P)) ∙ ap (λ (a : Code). read ++ ((d, colour) ∷ a)) rest ∙ ap (λ (a : Code). read ++ (a ++ spelled p.front)) (sym head) ∙ p.whole;
      first = λ e. kept_first (from ++ links) ys (p.front ++ P) marked (entered_long n.name held path links) (sym k.path ∙ e);
      last = λ e. k.path ∙ kept_last (from ++ links) ys e;
    }

pub reads_end : (c : Code) (held path : List Held) (read : Code) (pending : List Pending) → pending ≡ [] → Reads c held path read pending → read ≡ c
reads_end c held path read pending e r = sym (append-nil read) ∙ ap (λ (ps : Code). read ++ ps) (sym (none r.parts (r.marked ∙ e))) ∙ r.whole
  where
    none : (ps : List Part) → marks ps ≡ [] → spelled ps ≡ []
    none [] h = refl
    none (p ∷ ps) h = absurd (let z : suc (length (marks ps)) ≡ zero = ap length h in omega arith)
