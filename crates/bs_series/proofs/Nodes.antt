-- The nodes of a book: each describes its expression, and a node more leaves the others.
use Rattle.std.proofs.Common.{◌≡◌, ◌≢◌, ℕ, zero, suc, ◌+◌, ◌<◌, ◌≤◌, List, [], ◌∷◌, ◌++◌, length, get_or, nat_eq, arith, refl, sym, ◌∙◌, ap, ap₂, subst, ◌⊎◌, inl, inr}
use Rattle.std.proofs.lemmas.Bool.{cases_order}
use Rattle.bs_frac.specs.Fraction.{Fraction, whole}
use Rattle.bs_series.specs.declared.kind.Kind.TheVariants as kind
use Rattle.std.specs.List.{fold}
use Rattle.std.proofs.lemmas.List.{length-append, get_or_append_left, get_or_default}
use Rattle.std.proofs.lemmas.Bool.Decides.{nat_tests}
use Rattle.bs_tree.specs.SortingLaws.{by_cases}
use Rattle.std.proofs.lemmas.List.Sums.{fold-append}
use Rattle.std.proofs.Math.Seq.{get_or-append_seam}
use Rattle.bs_series.specs.Series.{Series, exact, method, compose, inverse, adjoint, substitute, modified, modifying, scale, empty_value, colours_of, depth, size}
use Rattle.bs_series.specs.Keys.{IsKeyed}
use Rattle.bs_series.specs.Accepted.{IsShallow}
use Rattle.bs_series.specs.declared.kind.Kind.{Kind}
use Rattle.bs_series.specs.Expressions.{series_at, meaning, OperandsIn, onto, expressions, IsNode, AllNodes, IsBook, IsOnlyAt, IsNew, IsColourCount, IsReducedKind}
use Rattle.bs_series.specs.declared.book.Node.{Node}

pub some_node : Node
some_node = record { kind = kind.Exact 1; numbers = record { colours = 1; empty = whole 1; depth = 1; size = 1 } }

by_order : (i j : ℕ) → (i < j → i ≡ j) → (j < i → i ≡ j) → i ≡ j
by_order i j p q = go (cases_order i j)
  where
    go : (i ≡ j) ⊎ ((i < j) ⊎ (j < i)) → i ≡ j
    go (inl e) = e
    go (inr (inl l)) = p l
    go (inr (inr l)) = q l

length-onto : (es : List Series) (ns : List Node) → length (fold onto es ns) ≡ length es + length ns
length-onto es [] = omega arith
length-onto es (n ∷ ns) = omega (arith, length-onto (onto es n) ns, length-append es (meaning (λ _. n.numbers.colours) es n.kind ∷ []))

pub length-expressions : (ns : List Node) → length (expressions ns) ≡ length ns
length-expressions ns = omega (arith, length-onto [] ns)

at_place : (es : List Series) (i : ℕ) (ns : List Node) (j : ℕ) (d : Node) → AllNodes es i ns → j < length ns → IsNode es (i + j) (get_or ns j d)
at_place es i [] j d h k = absurd (omega arith)
at_place es i (n ∷ ns) zero d h k = let e : i ≡ i + zero = omega arith in subst (λ (m : ℕ). IsNode es m n) e h.0
at_place es i (n ∷ ns) (suc j) d h k = let e : suc i + j ≡ i + suc j = omega arith in subst (λ (m : ℕ). IsNode es m (get_or ns j d)) e (at_place es (suc i) ns j d h.1 (omega arith))

pub node_at : (ns : List Node) (j : ℕ) (d : Node) → IsBook ns → j < length ns → IsNode (expressions ns) j (get_or ns j d)
node_at ns j d h k = let e : 0 + j ≡ j = omega arith in subst (λ (m : ℕ). IsNode (expressions ns) m (get_or ns j d)) e (at_place (expressions ns) 0 ns j d h k)

-- a node that was read at a place
pub node_seen : (ns : List Node) (es : List Series) (place id : ℕ) (n : Node) → expressions ns ≡ es → IsBook ns → place ≡ id → id < length es → n ≡ get_or ns place n → IsNode es id n
node_seen ns es place id n view h p k e =
    let lt : id < length ns = omega (arith, k, ap length view, length-expressions ns) in
    let at : IsNode (expressions ns) id (get_or ns id n) = node_at ns id n h lt in
    let e' : get_or ns id n ≡ n = ap (λ (m : ℕ). get_or ns m n) (sym p) ∙ sym e in
    subst (λ (fs : List Series). IsNode fs id n) view (subst (λ (m : Node). IsNode (expressions ns) id m) e' at)

-- ---- distinct expressions
pub only_at : (ns : List Node) (i : ℕ) → IsBook ns → i < length (expressions ns) → IsOnlyAt (expressions ns) i
only_at ns i h k j l e =
    let fresh : (m : ℕ) → m < length (expressions ns) → (n : ℕ) → n < m → series_at (expressions ns) n ≢ series_at (expressions ns) m =
    λ m p. let q : m < length ns = omega (arith, p, length-expressions ns) in (node_at ns m some_node h q).fresh in
    by_order j i (λ lt. absurd (fresh i k j lt e)) (λ lt. absurd (fresh j l i lt (sym e)))

pub only_at_seen : (ns : List Node) (es : List Series) (i : ℕ) → expressions ns ≡ es → IsBook ns → i < length es → IsOnlyAt es i
only_at_seen ns es i view h k = subst (λ (fs : List Series). i < length fs → IsOnlyAt fs i) view (λ l. only_at ns i h l) k

-- ---- a list with one more at its end
pub series_at-more : (es xs : List Series) (i : ℕ) → i < length es → series_at (es ++ xs) i ≡ series_at es i
series_at-more es xs i h = get_or_append_left es xs (exact 0) i h

pub series_at-last : (es : List Series) (s : Series) → series_at (es ++ s ∷ []) (length es) ≡ s
series_at-last es s = get_or-append_seam es s [] (exact 0)

pub meaning-more : (f : ℕ → ℕ) (es xs : List Series) (k : Kind) → OperandsIn (length es) k → meaning f (es ++ xs) k ≡ meaning f es k
meaning-more f es xs (kind.Exact k) h = refl
meaning-more f es xs (kind.Identity k) h = refl
meaning-more f es xs (kind.Average k) h = refl
meaning-more f es xs (kind.Method n) h = refl
meaning-more f es xs (kind.Compose a b) h = ap₂ compose (series_at-more es xs a h.0) (series_at-more es xs b h.1)
meaning-more f es xs (kind.Inverse a) h = ap inverse (series_at-more es xs a h)
meaning-more f es xs (kind.Adjoint a) h = ap adjoint (series_at-more es xs a h)
meaning-more f es xs (kind.Substitute b a) h = ap₂ substitute (series_at-more es xs b h.0) (series_at-more es xs a h.1)
meaning-more f es xs (kind.Modified a) h = ap modified (series_at-more es xs a h)
meaning-more f es xs (kind.Modifying a) h = ap modifying (series_at-more es xs a h)
meaning-more f es xs (kind.Scale a c) h = ap (λ (s : Series). scale s c) (series_at-more es xs a h)

-- a method alone looks at the colours of the tableaux
pub meaning-colours : (f : ℕ → ℕ) (c : ℕ) (es : List Series) (k : Kind) → c ≡ colours_of (meaning f es k) → meaning (λ _. c) es k ≡ meaning f es k
meaning-colours f c es (kind.Exact k) h = refl
meaning-colours f c es (kind.Identity k) h = refl
meaning-colours f c es (kind.Average k) h = refl
meaning-colours f c es (kind.Method n) h = ap (method n) h
meaning-colours f c es (kind.Compose a b) h = refl
meaning-colours f c es (kind.Inverse a) h = refl
meaning-colours f c es (kind.Adjoint a) h = refl
meaning-colours f c es (kind.Substitute b a) h = refl
meaning-colours f c es (kind.Modified a) h = refl
meaning-colours f c es (kind.Modifying a) h = refl
meaning-colours f c es (kind.Scale a b) h = refl

pub operands-weaken : (m n : ℕ) (k : Kind) → m ≤ n → OperandsIn m k → OperandsIn n k
operands-weaken m n (kind.Exact k) h o = tt
operands-weaken m n (kind.Identity k) h o = tt
operands-weaken m n (kind.Average k) h o = tt
operands-weaken m n (kind.Method t) h o = tt
operands-weaken m n (kind.Compose a b) h o = (omega (arith, h, o.0), omega (arith, h, o.1))
operands-weaken m n (kind.Inverse a) h o = omega (arith, h, o)
operands-weaken m n (kind.Adjoint a) h o = omega (arith, h, o)
operands-weaken m n (kind.Substitute b a) h o = (omega (arith, h, o.0), omega (arith, h, o.1))
operands-weaken m n (kind.Modified a) h o = omega (arith, h, o)
operands-weaken m n (kind.Modifying a) h o = omega (arith, h, o)
operands-weaken m n (kind.Scale a c) h o = omega (arith, h, o)

node-more : (es : List Series) (w : Series) (i : ℕ) (n : Node) → i < length es → IsNode es i n → IsNode (es ++ w ∷ []) i n
node-more es w i n l h =
    let e = series_at-more es (w ∷ []) i l in
    let P : (Series → Type 0) → Type 0 = λ Q. Q (series_at es i) → Q (series_at (es ++ w ∷ []) i) in
    let move : (Q : Series → Type 0) → P Q = λ Q. subst Q (sym e) in
    record {
      operands = h.operands;
      is = e ∙ h.is ∙ sym (meaning-more (λ _. n.numbers.colours) es (w ∷ []) n.kind (operands-weaken i (length es) n.kind (omega (arith, l)) h.operands));
      colours = move (λ s. n.numbers.colours ≡ colours_of s) h.colours;
      empty = move (λ s. n.numbers.empty ≡ empty_value s) h.empty;
      depth = move (λ s. n.numbers.depth ≡ depth s) h.depth;
      size = move (λ s. n.numbers.size ≡ size s) h.size;
      coloured = move (λ s. IsColourCount (colours_of s)) h.coloured;
      shallow = move IsShallow h.shallow;
      keyed = move IsKeyed h.keyed;
      fresh = λ j lt d. h.fresh j lt (sym (series_at-more es (w ∷ []) j (omega (arith, lt, l))) ∙ d ∙ e);
    }

nodes-more : (es : List Series) (w : Series) (i : ℕ) (ns : List Node) → i + length ns ≤ length es → AllNodes es i ns → AllNodes (es ++ w ∷ []) i ns
nodes-more es w i [] l h = tt
nodes-more es w i (n ∷ ns) l h = (node-more es w i n (omega (arith, l)) h.0, nodes-more es w (suc i) ns (omega (arith, l)) h.1)

nodes-append : (es : List Series) (i : ℕ) (ns : List Node) (n : Node) → AllNodes es i ns → IsNode es (i + length ns) n → AllNodes es i (ns ++ n ∷ [])
nodes-append es i [] n h k = let e : i + 0 ≡ i = omega arith in (subst (λ (m : ℕ). IsNode es m n) e k, tt)
nodes-append es i (m ∷ ns) n h k =
    let e : i + length (m ∷ ns) ≡ suc i + length ns = omega arith in (h.0, nodes-append es (suc i) ns n h.1 (subst (λ (j : ℕ). IsNode es j n) e k))

pub expressions-more : (ns : List Node) (n : Node) → expressions (ns ++ n ∷ []) ≡ onto (expressions ns) n
expressions-more ns n = fold-append onto [] ns (n ∷ [])

pub book-more : (ns : List Node) (n : Node) → IsBook ns → IsNode (onto (expressions ns) n) (length (expressions ns)) n → IsBook (ns ++ n ∷ [])
book-more ns n h k =
    let es = expressions ns in
    let w = meaning (λ _. n.numbers.colours) es n.kind in
    let fits : 0 + length ns ≤ length es = omega (arith, length-expressions ns) in
    let e : length es ≡ 0 + length ns = omega (arith, length-expressions ns) in
    subst (λ (fs : List Series). AllNodes fs 0 (ns ++ n ∷ [])) (sym (expressions-more ns n))
    (nodes-append (onto es n) 0 ns n (nodes-more es w 0 ns fits h) (subst (λ (m : ℕ). IsNode (onto es n) m n) e k))

-- the node of what is new
pub new_node : (f : ℕ → ℕ) (es : List Series) (k : Kind) (n : Node) → OperandsIn (length es) k → n.kind ≡ k
    → n.numbers.colours ≡ colours_of (meaning f es k) → n.numbers.empty ≡ empty_value (meaning f es k) → n.numbers.depth ≡ depth (meaning f es k) → n.numbers.size ≡ size (meaning f es k)
    → IsColourCount (colours_of (meaning f es k)) → IsShallow (meaning f es k) → IsKeyed (meaning f es k) → IsNew (meaning f es k) es
    → (onto es n ≡ es ++ meaning f es k ∷ []) × IsNode (onto es n) (length es) n
new_node f es k n o ek ec ee ed es' hc hs hr fresh =
    let w = meaning f es k in
    let m : meaning (λ _. n.numbers.colours) es n.kind ≡ w = ap (meaning (λ _. n.numbers.colours) es) ek ∙ meaning-colours f n.numbers.colours es k ec in
    let on : onto es n ≡ es ++ w ∷ [] = ap (λ (s : Series). es ++ s ∷ []) m in
    let last : series_at (es ++ w ∷ []) (length es) ≡ w = series_at-last es w in
    let move : (Q : Series → Type 0) → Q w → Q (series_at (es ++ w ∷ []) (length es)) = λ Q. subst Q (sym last) in
    let on_kind : OperandsIn (length es) n.kind = subst (OperandsIn (length es)) (sym ek) o in (
      on,
      subst (λ (fs : List Series). IsNode fs (length es) n) (sym on) (record {
        operands = on_kind;
        is = last ∙ sym m ∙ sym (meaning-more (λ _. n.numbers.colours) es (w ∷ []) n.kind on_kind);
        colours = move (λ s. n.numbers.colours ≡ colours_of s) ec;
        empty = move (λ s. n.numbers.empty ≡ empty_value s) ee;
        depth = move (λ s. n.numbers.depth ≡ depth s) ed;
        size = move (λ s. n.numbers.size ≡ size s) es';
        coloured = move (λ s. IsColourCount (colours_of s)) hc;
        shallow = move IsShallow hs;
        keyed = move IsKeyed hr;
        fresh = λ j lt d. fresh j lt (sym (series_at-more es (w ∷ []) j lt) ∙ d ∙ last);
      }),
    )

-- ---- one expression comes of one kind
place-same : (es : List Series) (i j : ℕ) → ((n : ℕ) → n < length es → IsOnlyAt es n) → i < length es → j < length es → series_at es i ≡ series_at es j → i ≡ j
place-same es i j once h k e = once j k i h e

pub meaning-injective : (f g : ℕ → ℕ) (es : List Series) → ((n : ℕ) → n < length es → IsOnlyAt es n) → (k l : Kind) → OperandsIn (length es) k → OperandsIn (length es) l
    → meaning f es k ≡ meaning g es l → k ≡ l
meaning-injective f g es once (kind.Exact k) (kind.Exact l) h i e = cc
meaning-injective f g es once (kind.Identity k) (kind.Identity l) h i e = cc
meaning-injective f g es once (kind.Average k) (kind.Average l) h i e = cc
meaning-injective f g es once (kind.Method m) (kind.Method n) h i e = cc
meaning-injective f g es once (kind.Compose a b) (kind.Compose c d) h i e =
    let p : series_at es a ≡ series_at es c = cc in let q : series_at es b ≡ series_at es d = cc in
    ap₂ (λ (x y : ℕ). kind.Compose x y) (place-same es a c once h.0 i.0 p) (place-same es b d once h.1 i.1 q)
meaning-injective f g es once (kind.Inverse a) (kind.Inverse c) h i e = let p : series_at es a ≡ series_at es c = cc in ap (λ (x : ℕ). kind.Inverse x) (place-same es a c once h i p)
meaning-injective f g es once (kind.Adjoint a) (kind.Adjoint c) h i e = let p : series_at es a ≡ series_at es c = cc in ap (λ (x : ℕ). kind.Adjoint x) (place-same es a c once h i p)
meaning-injective f g es once (kind.Substitute a b) (kind.Substitute c d) h i e =
    let p : series_at es a ≡ series_at es c = cc in let q : series_at es b ≡ series_at es d = cc in
    ap₂ (λ (x y : ℕ). kind.Substitute x y) (place-same es a c once h.0 i.0 p) (place-same es b d once h.1 i.1 q)
meaning-injective f g es once (kind.Modified a) (kind.Modified c) h i e = let p : series_at es a ≡ series_at es c = cc in ap (λ (x : ℕ). kind.Modified x) (place-same es a c once h i p)
meaning-injective f g es once (kind.Modifying a) (kind.Modifying c) h i e = let p : series_at es a ≡ series_at es c = cc in ap (λ (x : ℕ). kind.Modifying x) (place-same es a c once h i p)
meaning-injective f g es once (kind.Scale a b) (kind.Scale c d) h i e =
    let p : series_at es a ≡ series_at es c = cc in let q : b ≡ d = cc in
    ap₂ (λ (x : ℕ) (y : Fraction). kind.Scale x y) (place-same es a c once h i p) q
meaning-injective f g es once k l h i e = cc

-- ---- the search for a kind
-- the kind stands at no place below this one
abbrev pub NotBefore : ℕ → List Node → Kind → Type 0
NotBefore place ns k = (j : ℕ) → j < place → (get_or ns j some_node).kind ≢ k

pub not_before-more : (place : ℕ) (ns : List Node) (k : Kind) (n : Node) → NotBefore place ns k → n ≡ get_or ns place n → place < length ns → n.kind ≢ k → NotBefore (place + 1) ns k
not_before-more place ns k n h e lt d j l q =
    by_cases (nat_eq j place)
    (λ t. let at : j ≡ place = grind (arith, nat_tests, t) in d (ap (λ (m : Node). m.kind) (e ∙ get_or_default ns place n some_node lt ∙ ap (λ (m : ℕ). get_or ns m some_node) (sym at)) ∙ q))
    (λ f. let below : j < place = grind (arith, nat_tests, f, l) in h j below q)

pub is_new : (ns : List Node) (es : List Series) (k : Kind) (f : ℕ → ℕ) → expressions ns ≡ es → IsBook ns → OperandsIn (length es) k → NotBefore (length ns) ns k → IsNew (meaning f es k) es
is_new ns es k f view h o none i lt e =
    let l : i < length ns = omega (arith, lt, ap length view, length-expressions ns) in
    let n = get_or ns i some_node in
    let at : IsNode es i n = subst (λ (fs : List Series). IsNode fs i n) view (node_at ns i some_node h l) in
    none i l (meaning-injective (λ _. n.numbers.colours) f es (λ j. only_at_seen ns es j view h) n.kind k (operands-weaken i (length es) n.kind (omega (arith, lt)) at.operands) o (sym at.is ∙ e))

abbrev pub FoundAt : List Series → ℕ → Kind → Type 0
FoundAt es i k = (i < length es) × (meaning (λ _. colours_of (series_at es i)) es k ≡ series_at es i)

pub found_at : (ns : List Node) (es : List Series) (i : ℕ) (k : Kind) (n : Node) → expressions ns ≡ es → IsBook ns → i < length ns → n ≡ get_or ns i n → n.kind ≡ k
    → FoundAt es i k
found_at ns es i k n view h l e q =
    let lt : i < length es = omega (arith, l, ap length view, length-expressions ns) in
    let at : IsNode es i n = node_seen ns es i i n view h refl lt e in
    (lt, ap₂ (λ (c : ℕ) (m : Kind). meaning (λ _. c) es m) (sym at.colours) (sym q) ∙ sym at.is)

-- ---- each scaling's factor is reduced
pub reduced_at : (ns : List Node) (es : List Series) (i : ℕ) → expressions ns ≡ es → IsBook ns → i < length es → IsKeyed (series_at es i)
reduced_at ns es i view h l =
    let lt : i < length ns = omega (arith, l, ap length view, length-expressions ns) in
    let at : IsNode es i (get_or ns i some_node) = subst (λ (fs : List Series). IsNode fs i (get_or ns i some_node)) view (node_at ns i some_node h lt) in at.keyed

pub reduced_kind : (ns : List Node) (es : List Series) (f : ℕ → ℕ) (k : Kind) → expressions ns ≡ es → IsBook ns → OperandsIn (length es) k → IsReducedKind k → IsKeyed (meaning f es k)
reduced_kind ns es f (kind.Exact k) v h o r = (tt, tt)
reduced_kind ns es f (kind.Identity k) v h o r = (tt, tt)
reduced_kind ns es f (kind.Average k) v h o r = (tt, tt)
reduced_kind ns es f (kind.Method k) v h o r = (tt, tt)
reduced_kind ns es f (kind.Compose a b) v h o r = let p = reduced_at ns es a v h o.0 in let q = reduced_at ns es b v h o.1 in ((p.0, q.0), (p.1, q.1))
reduced_kind ns es f (kind.Inverse a) v h o r = reduced_at ns es a v h o
reduced_kind ns es f (kind.Adjoint a) v h o r = reduced_at ns es a v h o
reduced_kind ns es f (kind.Substitute b a) v h o r = let p = reduced_at ns es b v h o.0 in let q = reduced_at ns es a v h o.1 in ((p.0, q.0), (p.1, q.1))
reduced_kind ns es f (kind.Modified a) v h o r = reduced_at ns es a v h o
reduced_kind ns es f (kind.Modifying a) v h o r = reduced_at ns es a v h o
reduced_kind ns es f (kind.Scale a c) v h o r = let p = reduced_at ns es a v h o in ((p.0, r.0), (p.1, r.1))

-- ---- one node more
pub pushed : (ns ms : List Node) (es : List Series) (n : Node) → expressions ns ≡ es → IsBook ns → IsNode (onto es n) (length es) n → ms ≡ ns ++ n ∷ [] → IsBook ms × (expressions ms ≡ onto es n)
pushed ns ms es n view h k e =
    let k' : IsNode (onto (expressions ns) n) (length (expressions ns)) n = subst (λ (fs : List Series). IsNode (onto fs n) (length fs) n) (sym view) k in
    (subst IsBook (sym e) (book-more ns n h k'), ap expressions e ∙ expressions-more ns n ∙ ap (λ (fs : List Series). onto fs n) view)

pub length-onto_one : (es : List Series) (n : Node) → length (onto es n) ≡ suc (length es)
length-onto_one es n = omega (arith, length-append es (meaning (λ _. n.numbers.colours) es n.kind ∷ []))
