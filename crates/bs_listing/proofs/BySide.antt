-- Rows of numbers as splittings and partitions, and what stands at one place of them.
use Rattle.std.proofs.Common.{◌≡◌, ℕ, zero, suc, ◌<◌, List, [], ◌∷◌, ◌++◌, map, drop, length, get_or, Some, refl, ap, sym, ◌∙◌, subst}
use Rattle.std.specs.List.{All, slice_get}
use Rattle.std.specs.Option.{option_map}
use Rattle.std.proofs.lemmas.List.Elements.{All-nil, All-cons, All-weaker}
use Rattle.std.proofs.lemmas.List.{length-map}
use Rattle.std.proofs.lemmas.Option.{slice_get_within, slice_get-map, slice_get-get_or}
use Rattle.bs_tree.specs.Code.{tree_of}
use Rattle.bs_split.specs.Splitting.{split_codes}
use Rattle.bs_part.specs.Partition.{pieces, tail}
use Rattle.bs_reply.specs.Lines.{trees_text}
use Rattle.bs_catalog.specs.Shelf.{Code, Numbers, AreNumbers, AreRows, split_rows, part_rows}
use Rattle.bs_catalog.specs.Making.{without_first, AreHalves}
use Rattle.bs_catalog.specs.Memo.{Extends}
use Rattle.bs_catalog.proofs.RowLaws.{part_rows_at}
use Rattle.bs_listing.specs.Sides.{Kept, kept_row, kept_item, kept_items, Parted, parted_row, parted_item, parted_items, AreHeads, AreCrowns, AreSplits, AreParts, cut_text, others_text, crown_of, line_end}
use Rattle.bs_listing.specs.declared.sides.Crown.{Crown}

-- ---- numbers of codes are below their count
numbers_below : (cs : List Code) (row : List ℕ) (codes : List Code) → AreNumbers cs row codes → All (λ n. n < length cs) row
numbers_below cs [] [] h = All-nil (λ n. n < length cs)
numbers_below cs [] (code ∷ codes) h = absurd h
numbers_below cs (n ∷ row) [] h = absurd h
numbers_below cs (n ∷ row) (code ∷ codes) h = All-cons (λ m. m < length cs) n row (slice_get_within cs n code h.0) (numbers_below cs row codes h.1)

pub rows_below : (cs : List Code) (rows : List (List ℕ)) (lists : List (List Code)) → AreRows cs rows lists → All (λ row. All (λ n. n < length cs) row) rows
rows_below cs [] [] h = All-nil (λ (row : List ℕ). All (λ n. n < length cs) row)
rows_below cs [] (codes ∷ lists) h = absurd h
rows_below cs (row ∷ rows) [] h = absurd h
rows_below cs (row ∷ rows) (codes ∷ lists) h =
    All-cons (λ (r : List ℕ). All (λ n. n < length cs) r) row rows (numbers_below cs row codes h.0) (rows_below cs rows lists h.1)

pub heads_below : (cs : List Code) (ns : List ℕ) (ks : List Kept) → AreHeads cs ns ks → All (λ n. n < length cs) ns
heads_below cs [] [] h = All-nil (λ n. n < length cs)
heads_below cs [] (k ∷ ks) h = absurd h
heads_below cs (n ∷ ns) [] h = absurd h
heads_below cs (n ∷ ns) (k ∷ ks) h = All-cons (λ m. m < length cs) n ns (slice_get_within cs n k.head h.0) (heads_below cs ns ks h.1)

pub roots_below : (cs : List Code) (crowns : List Crown) (ps : List Parted) → AreCrowns cs crowns ps → All (λ c. c.root < length cs) crowns
roots_below cs [] [] h = All-nil (λ (c : Crown). c.root < length cs)
roots_below cs [] (p ∷ ps) h = absurd h
roots_below cs (c ∷ crowns) [] h = absurd h
roots_below cs (c ∷ crowns) (p ∷ ps) h = All-cons (λ (d : Crown). d.root < length cs) c crowns (slice_get_within cs c.root p.root h.0.1) (roots_below cs crowns ps h.1)

-- ---- as many numbers as items
pub heads_count : (cs : List Code) (ns : List ℕ) (ks : List Kept) → AreHeads cs ns ks → length ns ≡ length ks
heads_count cs [] [] h = refl
heads_count cs [] (k ∷ ks) h = absurd h
heads_count cs (n ∷ ns) [] h = absurd h
heads_count cs (n ∷ ns) (k ∷ ks) h = ap suc (heads_count cs ns ks h.1)

pub crowns_count : (cs : List Code) (crowns : List Crown) (ps : List Parted) → AreCrowns cs crowns ps → length crowns ≡ length ps
crowns_count cs [] [] h = refl
crowns_count cs [] (p ∷ ps) h = absurd h
crowns_count cs (c ∷ crowns) [] h = absurd h
crowns_count cs (c ∷ crowns) (p ∷ ps) h = ap suc (crowns_count cs crowns ps h.1)

-- ---- numbers stay numbers
heads_more : (cs cs' : List Code) (ns : List ℕ) (ks : List Kept) → Extends cs cs' → AreHeads cs ns ks → AreHeads cs' ns ks
heads_more cs cs' [] [] e h = tt
heads_more cs cs' [] (k ∷ ks) e h = absurd h
heads_more cs cs' (n ∷ ns) [] e h = absurd h
heads_more cs cs' (n ∷ ns) (k ∷ ks) e h = (e n k.head h.0, heads_more cs cs' ns ks e h.1)

crowns_more : (cs cs' : List Code) (crowns : List Crown) (ps : List Parted) → Extends cs cs' → AreCrowns cs crowns ps → AreCrowns cs' crowns ps
crowns_more cs cs' [] [] e h = tt
crowns_more cs cs' [] (p ∷ ps) e h = absurd h
crowns_more cs cs' (c ∷ crowns) [] e h = absurd h
crowns_more cs cs' (c ∷ crowns) (p ∷ ps) e h = ((e c.skeleton p.skeleton h.0.0, e c.root p.root h.0.1), crowns_more cs cs' crowns ps e h.1)

pub splits_more : (end : List ℕ) (cs cs' : List Code) (heads : List ℕ) (texts : List (List ℕ)) (ks : List Kept) → Extends cs cs' → AreSplits end cs heads texts ks → AreSplits end cs' heads texts ks
splits_more end cs cs' heads texts ks e h = record { heads_are = heads_more cs cs' heads ks e h.heads_are; texts_are = h.texts_are }

pub parts_more : (end : List ℕ) (cs cs' : List Code) (crowns : List Crown) (texts : List (List ℕ)) (ps : List Parted) → Extends cs cs' → AreParts end cs crowns texts ps → AreParts end cs' crowns texts ps
parts_more end cs cs' crowns texts ps e h = record { crowns_are = crowns_more cs cs' crowns ps e h.crowns_are; texts_are = h.texts_are }

-- ---- what stands at a place
pub record HeadAt (cs : List Code) (n : ℕ) (ks : List Kept) (i : ℕ) : Type 0 where
  pub item : Kept
  pub is : slice_get ks i ≡ Some item
  pub number : Numbers cs n item.head

same_number : (cs : List Code) (m n : ℕ) (code : Code) → Some m ≡ Some n → Numbers cs m code → Numbers cs n code
same_number cs m n code e h = let e' : m ≡ n = cc in subst (λ (k : ℕ). Numbers cs k code) e' h

pub head_at : (cs : List Code) (ns : List ℕ) (ks : List Kept) (i n : ℕ) → AreHeads cs ns ks → slice_get ns i ≡ Some n → HeadAt cs n ks i
head_at cs [] [] i n h e = cc
head_at cs [] (k ∷ ks) i n h e = absurd h
head_at cs (m ∷ ns) [] i n h e = absurd h
head_at cs (m ∷ ns) (k ∷ ks) zero n h e = record { item = k; is = refl; number = same_number cs m n k.head e h.0 }
head_at cs (m ∷ ns) (k ∷ ks) (suc i) n h e = let at = head_at cs ns ks i n h.1 e in record { item = at.item; is = at.is; number = at.number }

pub record CrownAt (cs : List Code) (c : Crown) (ps : List Parted) (i : ℕ) : Type 0 where
  pub item : Parted
  pub is : slice_get ps i ≡ Some item
  pub skeleton : Numbers cs c.skeleton item.skeleton
  pub root : Numbers cs c.root item.root

same_crown : (cs : List Code) (c d : Crown) (p : Parted) → Some c ≡ Some d → Numbers cs c.skeleton p.skeleton → Numbers cs c.root p.root → CrownAt cs d (p ∷ []) 0
same_crown cs c d p e h k =
    let e' : c ≡ d = cc in
    subst (λ (x : Crown). CrownAt cs x (p ∷ []) 0) e' (record { item = p; is = refl; skeleton = h; root = k })

pub crown_at : (cs : List Code) (crowns : List Crown) (ps : List Parted) (i : ℕ) (c : Crown) → AreCrowns cs crowns ps → slice_get crowns i ≡ Some c → CrownAt cs c ps i
crown_at cs [] [] i c h e = cc
crown_at cs [] (p ∷ ps) i c h e = absurd h
crown_at cs (d ∷ crowns) [] i c h e = absurd h
crown_at cs (d ∷ crowns) (p ∷ ps) zero c h e =
    let at = same_crown cs d c p e h.0.0 h.0.1 in
    record { item = at.item; is = at.is; skeleton = at.skeleton; root = at.root }
crown_at cs (d ∷ crowns) (p ∷ ps) (suc i) c h e =
    let at = crown_at cs crowns ps i c h.1 e in
    record { item = at.item; is = at.is; skeleton = at.skeleton; root = at.root }

some_value : {X : Type 0} (x y : X) → Some x ≡ Some y → x ≡ y
some_value x y e = cc

pub text_at : {X : Type 0} (f : X → List ℕ) (xs : List X) (texts : List (List ℕ)) (i : ℕ) (x : X) (text : List ℕ) → texts ≡ map f xs → slice_get xs i ≡ Some x → slice_get texts i ≡ Some text → text ≡ f x
text_at f xs texts i x text are here there =
    let e : Some text ≡ Some (f x) =
    sym there ∙ ap (λ (ts : List (List ℕ)). slice_get ts i) are ∙ slice_get-map f xs i ∙ ap (option_map f) here in
    some_value text (f x) e

-- ---- the rows of a tree
two_maps : {A B C : Type 0} (f : B → C) (g : A → B) (xs : List A) → map f (map g xs) ≡ map (λ x. f (g x)) xs
two_maps f g [] = refl
two_maps {C = C} f g (x ∷ xs) = ap (λ (ys : List C). f (g x) ∷ ys) (two_maps f g xs)

pub kept_rows : (code : Code) → split_rows code ≡ map kept_row (kept_items code)
kept_rows code = sym (two_maps kept_row kept_item (tail (split_codes code)))

pub parted_rows : (code : Code) → part_rows code ≡ map parted_row (parted_items code)
parted_rows code =
    let t = tree_of code in
    part_rows_at t code refl ∙ sym (two_maps parted_row (parted_item t.colour) (pieces t.below))

heads_are : (cs : List Code) (rows : List (List ℕ)) (ks : List Kept) → AreRows cs rows (map kept_row ks) → AreHeads cs (map (λ row. get_or row 0 0) rows) ks
heads_are cs [] [] h = tt
heads_are cs [] (k ∷ ks) h = absurd h
heads_are cs (row ∷ rows) [] h = absurd h
heads_are cs ([] ∷ rows) (k ∷ ks) h = absurd h.0
heads_are cs ((n ∷ row) ∷ rows) (k ∷ ks) h = (h.0.0, heads_are cs rows ks h.1)

crowns_are : (cs : List Code) (rows : List (List ℕ)) (ps : List Parted) → AreRows cs rows (map parted_row ps) → AreCrowns cs (map crown_of rows) ps
crowns_are cs [] [] h = tt
crowns_are cs [] (p ∷ ps) h = absurd h
crowns_are cs (row ∷ rows) [] h = absurd h
crowns_are cs ([] ∷ rows) (p ∷ ps) h = absurd h.0
crowns_are cs ((n ∷ []) ∷ rows) (p ∷ ps) h = absurd h.0.1
crowns_are cs ((n ∷ (m ∷ row)) ∷ rows) (p ∷ ps) h = ((h.0.0, h.0.1.0), crowns_are cs rows ps h.1)

abbrev pub behind_text : ℕ → List ℕ → List Code → List ℕ
behind_text count end row = trees_text (drop count row) ++ end

pub split_side : (end : List ℕ) (cs : List Code) (rows : List (List ℕ)) (code : Code) (heads : List ℕ) (texts : List (List ℕ)) → AreRows cs rows (split_rows code)
    → heads ≡ map (λ row. get_or row 0 0) rows → ((lists : List (List Code)) → AreRows cs rows lists → texts ≡ map (behind_text 1 end) lists)
    → AreSplits end cs heads texts (kept_items code)
split_side end cs rows code heads texts are heads_is texts_is =
    let ks = kept_items code in
    let are' : AreRows cs rows (map kept_row ks) = subst (λ (lists : List (List Code)). AreRows cs rows lists) (kept_rows code) are in
    record {
      heads_are = subst (λ (ns : List ℕ). AreHeads cs ns ks) (sym heads_is) (heads_are cs rows ks are');
      texts_are = texts_is (map kept_row ks) are' ∙ two_maps (behind_text 1 end) kept_row ks;
    }

pub part_side : (end : List ℕ) (cs : List Code) (rows : List (List ℕ)) (code : Code) (crowns : List Crown) (texts : List (List ℕ)) → AreRows cs rows (part_rows code)
    → crowns ≡ map crown_of rows → ((lists : List (List Code)) → AreRows cs rows lists → texts ≡ map (behind_text 2 end) lists)
    → AreParts end cs crowns texts (parted_items code)
part_side end cs rows code crowns texts are crowns_is texts_is =
    let ps = parted_items code in
    let are' : AreRows cs rows (map parted_row ps) = subst (λ (lists : List (List Code)). AreRows cs rows lists) (parted_rows code) are in
    record {
      crowns_are = subst (λ (xs : List Crown). AreCrowns cs xs ps) (sym crowns_is) (crowns_are cs rows ps are');
      texts_are = texts_is (map parted_row ps) are' ∙ two_maps (behind_text 2 end) parted_row ps;
    }

-- ---- numbers stay below the count
pub below_more : (cs cs' : List Code) (n : ℕ) → Extends cs cs' → n < length cs → n < length cs'
below_more cs cs' n e lt = slice_get_within cs' n (get_or cs n []) (e n (get_or cs n []) (slice_get-get_or cs n [] lt))

pub roots_more : (cs cs' : List Code) (crowns : List Crown) → Extends cs cs' → All (λ c. c.root < length cs) crowns → All (λ c. c.root < length cs') crowns
roots_more cs cs' crowns e h = All-weaker (λ (c : Crown). c.root < length cs) (λ (c : Crown). c.root < length cs') (λ (c : Crown) lt. below_more cs cs' c.root e lt) crowns h

-- ---- the items of the first child and of the tree without it, as two calls give them
pub record SplitSides (cs : List Code) (s x : Code) (child : ℕ) (kids : List ℕ) (cuts : List (List ℕ)) (heads : List ℕ) (ends : List (List ℕ)) : Type 0 where
  pub child_is : Numbers cs child x
  pub kids_are : AreSplits [] cs kids cuts (kept_items x)
  pub rest_are : AreSplits line_end cs heads ends (kept_items (without_first s))
  pub kids_count : length kids ≡ length (kept_items x)
  pub rest_count : length heads ≡ length (kept_items (without_first s))
  pub kids_texts : length kids ≡ length cuts
  pub rest_texts : length heads ≡ length ends

pub split_sides : (cs0 cs1 cs2 : List Code) (s : Code) (child rest : ℕ) (kids : List ℕ) (cuts : List (List ℕ)) (heads : List ℕ) (ends : List (List ℕ)) (h : AreHalves cs0 s child rest)
    → Extends cs0 cs1 → Extends cs1 cs2
    → ((code : Code) → Numbers cs1 child code → AreSplits [] cs1 kids cuts (kept_items code)) → ((code : Code) → Numbers cs2 rest code → AreSplits line_end cs2 heads ends (kept_items code))
    → SplitSides cs2 s h.first child kids cuts heads ends
split_sides cs0 cs1 cs2 s child rest kids cuts heads ends h e1 e2 first second =
    let x = h.first in
    let y = without_first s in
    let there : Numbers cs1 child x = e1 child x h.child_is in
    let ks = first x there in
    let rs = second y (e2 rest y (e1 rest y h.rest_is)) in
    let kids_count : length kids ≡ length (kept_items x) = heads_count cs1 kids (kept_items x) ks.heads_are in
    let rest_count : length heads ≡ length (kept_items y) = heads_count cs2 heads (kept_items y) rs.heads_are in
    record {
      child_is = e2 child x there;
      kids_are = splits_more [] cs1 cs2 kids cuts (kept_items x) e2 ks;
      rest_are = rs;
      kids_count = kids_count;
      rest_count = rest_count;
      kids_texts = kids_count ∙ sym (length-map (kept_items x) (cut_text [])) ∙ sym (ap length ks.texts_are);
      rest_texts = rest_count ∙ sym (length-map (kept_items y) (cut_text line_end)) ∙ sym (ap length rs.texts_are);
    }

pub record PartSides (cs : List Code) (s x : Code) (kids : List Crown) (texts : List (List ℕ)) (crowns : List Crown) (ends : List (List ℕ)) : Type 0 where
  pub kids_are : AreParts [] cs kids texts (parted_items x)
  pub rest_are : AreParts line_end cs crowns ends (parted_items (without_first s))
  pub kids_count : length kids ≡ length (parted_items x)
  pub rest_count : length crowns ≡ length (parted_items (without_first s))
  pub kids_texts : length kids ≡ length texts
  pub rest_texts : length crowns ≡ length ends

pub part_sides : (cs0 cs1 cs2 : List Code) (s : Code) (child rest : ℕ) (kids : List Crown) (texts : List (List ℕ)) (crowns : List Crown) (ends : List (List ℕ)) (h : AreHalves cs0 s child rest)
    → Extends cs0 cs1 → Extends cs1 cs2
    → ((code : Code) → Numbers cs1 child code → AreParts [] cs1 kids texts (parted_items code)) → ((code : Code) → Numbers cs2 rest code → AreParts line_end cs2 crowns ends (parted_items code))
    → PartSides cs2 s h.first kids texts crowns ends
part_sides cs0 cs1 cs2 s child rest kids texts crowns ends h e1 e2 first second =
    let x = h.first in
    let y = without_first s in
    let ks = first x (e1 child x h.child_is) in
    let rs = second y (e2 rest y (e1 rest y h.rest_is)) in
    let kids_count : length kids ≡ length (parted_items x) = crowns_count cs1 kids (parted_items x) ks.crowns_are in
    let rest_count : length crowns ≡ length (parted_items y) = crowns_count cs2 crowns (parted_items y) rs.crowns_are in
    record {
      kids_are = parts_more [] cs1 cs2 kids texts (parted_items x) e2 ks;
      rest_are = rs;
      kids_count = kids_count;
      rest_count = rest_count;
      kids_texts = kids_count ∙ sym (length-map (parted_items x) (others_text [])) ∙ sym (ap length ks.texts_are);
      rest_texts = rest_count ∙ sym (length-map (parted_items y) (others_text line_end)) ∙ sym (ap length rs.texts_are);
    }
