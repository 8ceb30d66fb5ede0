-- Lines that are made of items of the first child and of the tree without it: one more line, and those under one more item.
--
--   CutOffSoFar, UnderSoFar, KeptSoFar == behind a text stand the lines of the first i splittings that a loop goes over
--   JoinedSoFar, SeveredSoFar, ..      == the same of partitions
use Rattle.std.proofs.Common.{◌≡◌, ℕ, ◌+◌, ◌≤◌, List, [], ◌∷◌, ◌++◌, take, length, Some, ap, sym, ◌∙◌, arith, append_assoc, append-nil}
use Rattle.std.specs.List.{slice_get}
use Rattle.std.proofs.lemmas.List.{take_all}
use Rattle.std.proofs.lemmas.Grind.{flat_map-append}
use Rattle.bs_reply.specs.Lines.{trees_text, part_line}
use Rattle.bs_catalog.specs.Shelf.{Code, Numbers}
use Rattle.bs_catalog.specs.Making.{attached, merged, made}
use Rattle.bs_catalog.specs.Memo.{Extends, Makes}
use Rattle.bs_catalog.specs.declared.way.Way.TheVariants.{CutOff, Keep, Join, Sever}
use Rattle.bs_catalog.proofs.Remembering.{makes_of}
use Rattle.bs_listing.specs.Texts.{spaced, head_text, item_line}
use Rattle.bs_listing.specs.Sides.{Kept, kept_row, Parted, parted_row, AreSplits, AreParts, cut_text, others_text, line_end}
use Rattle.bs_listing.specs.Writes.{lines_under, all_lines, WritesCutOff, WritesUnder, WritesKept, WritesSplits, WritesJoined, WritesSevered, WritesAllJoined, WritesAllSevered}
use Rattle.bs_listing.specs.declared.sides.Crown.{Crown}
use Rattle.bs_listing.proofs.Fronts.{item-more}
use Rattle.bs_listing.proofs.BySide.{head_at, crown_at, text_at, splits_more, parts_more, heads_count, crowns_count}

-- ---- a line of texts
pub line_of : (code : Code) (a b : List Code) (cut end : List ℕ) → cut ≡ trees_text a → end ≡ trees_text b ++ line_end → head_text code ++ cut ++ end ≡ part_line code (a ++ b)
line_of code a b cut end cut_is end_is =
    let h = head_text code in
    ap (λ (t : List ℕ). h ++ t ++ end) cut_is
    ∙ ap (λ (t : List ℕ). h ++ trees_text a ++ t) end_is
    ∙ sym (append_assoc (h ++ trees_text a) (trees_text b) line_end)
    ∙ ap (λ (t : List ℕ). t ++ line_end) (append_assoc h (trees_text a) (trees_text b) ∙ ap (λ (t : List ℕ). h ++ t) (sym (flat_map-append (λ (x : Code). spaced x) a b)))

-- the text of trees with nothing behind it
bare : (a : List Code) (cut : List ℕ) → cut ≡ trees_text a ++ [] → cut ≡ trees_text a
bare a cut e = e ∙ append-nil (trees_text a)

-- ---- splittings that cut the first child off
abbrev pub CutOffSoFar : List Code → List ℕ → List ℕ → List (List ℕ) → ℕ → List ℕ → List ℕ → Type 0
CutOffSoFar cs cut heads ends i out now =
    (x : Code) (rs : List Kept) → cut ≡ trees_text (x ∷ []) → AreSplits line_end cs heads ends rs → now ≡ out ++ lines_under CutOff kept_row (x ∷ []) (take i rs)

abbrev pub WritesLine : List Code → ℕ → List ℕ → List ℕ → List ℕ → List ℕ → Type 0
WritesLine cs head cut end now later = (code : Code) → Numbers cs head code → later ≡ now ++ (head_text code ++ cut ++ end)

pub cut_off_more : (cs : List Code) (cut : List ℕ) (heads : List ℕ) (ends : List (List ℕ)) (i n : ℕ) (end out now later : List ℕ) → slice_get heads i ≡ Some n → slice_get ends i ≡ Some end
    → WritesLine cs n cut end now later → CutOffSoFar cs cut heads ends i out now → CutOffSoFar cs cut heads ends (i + 1) out later
cut_off_more cs cut heads ends i n end out now later here there w before x rs cut_is are =
    let at = head_at cs heads rs i n are.heads_are here in
    let end_is : end ≡ cut_text line_end at.item = text_at (cut_text line_end) rs ends i at.item end are.texts_are at.is there in
    item-more (λ (r : Kept). item_line (made CutOff (x ∷ []) (kept_row r))) out now later rs i at.item at.is (before x rs cut_is are)
    (w at.item.head at.number ∙ ap (λ (t : List ℕ). now ++ t) (line_of at.item.head (x ∷ []) at.item.cut cut end cut_is end_is))

pub cut_off_all : (cs : List Code) (cut : List ℕ) (heads : List ℕ) (ends : List (List ℕ)) (i : ℕ) (out now : List ℕ) → length heads ≤ i → CutOffSoFar cs cut heads ends i out now
    → WritesCutOff cs cut heads ends out now
cut_off_all cs cut heads ends i out now end before x rs cut_is are =
    before x rs cut_is are
    ∙ ap (λ (xs : List Kept). out ++ lines_under CutOff kept_row (x ∷ []) xs) (take_all i rs (omega (arith, end, heads_count cs heads rs are.heads_are)))

-- ---- splittings that keep its root, under one of its splittings
abbrev pub UnderSoFar : List Code → ℕ → List ℕ → List ℕ → List (List ℕ) → ℕ → List ℕ → List ℕ → Type 0
UnderSoFar cs below cut heads ends i out now =
    (k : Kept) (rs : List Kept) → Numbers cs below k.head → cut ≡ trees_text k.cut → AreSplits line_end cs heads ends rs
    → now ≡ out ++ lines_under Keep kept_row (kept_row k) (take i rs)

pub under_more : (cs cs' : List Code) (below : ℕ) (cut : List ℕ) (heads : List ℕ) (ends : List (List ℕ)) (i n head : ℕ) (end out now later : List ℕ) → Extends cs cs'
    → slice_get heads i ≡ Some n → slice_get ends i ≡ Some end → Makes attached cs' n below head → WritesLine cs' head cut end now later
    → UnderSoFar cs below cut heads ends i out now → UnderSoFar cs below cut heads ends (i + 1) out later
under_more cs cs' below cut heads ends i n head end out now later e here there m w before k rs below_is cut_is are =
    let at = head_at cs heads rs i n are.heads_are here in
    let end_is : end ≡ cut_text line_end at.item = text_at (cut_text line_end) rs ends i at.item end are.texts_are at.is there in
    let made_is : Numbers cs' head (attached at.item.head k.head) =
    makes_of attached cs' n below head at.item.head k.head m (e n at.item.head at.number) (e below k.head below_is) in
    item-more (λ (r : Kept). item_line (made Keep (kept_row k) (kept_row r))) out now later rs i at.item at.is (before k rs below_is cut_is are)
    (w (attached at.item.head k.head) made_is ∙ ap (λ (t : List ℕ). now ++ t) (line_of (attached at.item.head k.head) k.cut at.item.cut cut end cut_is end_is))

pub under_all : (cs : List Code) (below : ℕ) (cut : List ℕ) (heads : List ℕ) (ends : List (List ℕ)) (i : ℕ) (out now : List ℕ) → length heads ≤ i
    → UnderSoFar cs below cut heads ends i out now → WritesUnder cs below cut heads ends out now
under_all cs below cut heads ends i out now end before k rs below_is cut_is are =
    before k rs below_is cut_is are
    ∙ ap (λ (xs : List Kept). out ++ lines_under Keep kept_row (kept_row k) xs) (take_all i rs (omega (arith, end, heads_count cs heads rs are.heads_are)))

-- ---- under each of them
abbrev pub KeptSoFar : List Code → List ℕ → List (List ℕ) → List ℕ → List (List ℕ) → ℕ → List ℕ → List ℕ → Type 0
KeptSoFar cs kids cuts heads ends i out now =
    (ks rs : List Kept) → AreSplits [] cs kids cuts ks → AreSplits line_end cs heads ends rs → now ≡ out ++ all_lines Keep kept_row (take i ks) rs

pub kept_more : (cs cs' : List Code) (kids : List ℕ) (cuts : List (List ℕ)) (heads : List ℕ) (ends : List (List ℕ)) (i n : ℕ) (cut out now later : List ℕ) → Extends cs cs'
    → slice_get kids i ≡ Some n → slice_get cuts i ≡ Some cut → WritesUnder cs' n cut heads ends now later
    → KeptSoFar cs kids cuts heads ends i out now → KeptSoFar cs kids cuts heads ends (i + 1) out later
kept_more cs cs' kids cuts heads ends i n cut out now later e here there w before ks rs kids_are are =
    let at = head_at cs kids ks i n kids_are.heads_are here in
    let cut_is : cut ≡ cut_text [] at.item = text_at (cut_text []) ks cuts i at.item cut kids_are.texts_are at.is there in
    item-more (λ (k : Kept). lines_under Keep kept_row (kept_row k) rs) out now later ks i at.item at.is (before ks rs kids_are are)
    (w at.item rs (e n at.item.head at.number) (bare at.item.cut cut cut_is) (splits_more line_end cs cs' heads ends rs e are))

pub kept_all : (cs : List Code) (kids : List ℕ) (cuts : List (List ℕ)) (heads : List ℕ) (ends : List (List ℕ)) (i : ℕ) (out now : List ℕ) → length kids ≤ i
    → KeptSoFar cs kids cuts heads ends i out now → WritesKept cs kids cuts heads ends out now
kept_all cs kids cuts heads ends i out now end before ks rs kids_are are =
    before ks rs kids_are are
    ∙ ap (λ (xs : List Kept). out ++ all_lines Keep kept_row xs rs) (take_all i ks (omega (arith, end, heads_count cs kids ks kids_are.heads_are)))

pub splits_written : (cs : List Code) (child : ℕ) (cut : List ℕ) (kids : List ℕ) (cuts : List (List ℕ)) (heads : List ℕ) (ends : List (List ℕ)) (out mid later : List ℕ)
    → ((x : Code) → Numbers cs child x → cut ≡ spaced x) → WritesCutOff cs cut heads ends out mid → WritesKept cs kids cuts heads ends mid later
    → WritesSplits cs child kids cuts heads ends out later
splits_written cs child cut kids cuts heads ends out mid later cut_is first second x ks rs child_is kids_are are =
    second ks rs kids_are are
    ∙ ap (λ (t : List ℕ). t ++ all_lines Keep kept_row ks rs) (first x rs (cut_is x child_is ∙ sym (append-nil (spaced x))) are)
    ∙ append_assoc out (lines_under CutOff kept_row (x ∷ []) rs) (all_lines Keep kept_row ks rs)

-- ---- partitions that keep the edge above the first child
abbrev pub WritesPartLine : List Code → ℕ → ℕ → List ℕ → List ℕ → List ℕ → List ℕ → Type 0
WritesPartLine cs skeleton root others end now later =
    (s r : Code) → Numbers cs skeleton s → Numbers cs root r → later ≡ now ++ (head_text s ++ (spaced r ++ others) ++ end)

abbrev pub JoinedSoFar : List Code → Crown → List ℕ → List Crown → List (List ℕ) → ℕ → List ℕ → List ℕ → Type 0
JoinedSoFar cs below others crowns ends i out now =
    (k : Parted) (rs : List Parted) → Numbers cs below.skeleton k.skeleton → Numbers cs below.root k.root → others ≡ trees_text k.others
    → AreParts line_end cs crowns ends rs → now ≡ out ++ lines_under Join parted_row (parted_row k) (take i rs)

pub joined_more : (cs cs' : List Code) (below : Crown) (others : List ℕ) (crowns : List Crown) (ends : List (List ℕ)) (i : ℕ) (above crown : Crown) (end out now later : List ℕ) → Extends cs cs'
    → slice_get crowns i ≡ Some above → slice_get ends i ≡ Some end → Makes merged cs' above.skeleton below.skeleton crown.skeleton → Makes attached cs' above.root below.root crown.root
    → WritesPartLine cs' crown.skeleton crown.root others end now later
    → JoinedSoFar cs below others crowns ends i out now → JoinedSoFar cs below others crowns ends (i + 1) out later
joined_more cs cs' below others crowns ends i above crown end out now later e here there m1 m2 w before k rs skeleton_is root_is others_is are =
    let at = crown_at cs crowns rs i above are.crowns_are here in
    let r = at.item in
    let end_is : end ≡ others_text line_end r = text_at (others_text line_end) rs ends i r end are.texts_are at.is there in
    let s_is : Numbers cs' crown.skeleton (merged r.skeleton k.skeleton) =
    makes_of merged cs' above.skeleton below.skeleton crown.skeleton r.skeleton k.skeleton m1 (e above.skeleton r.skeleton at.skeleton) (e below.skeleton k.skeleton skeleton_is) in
    let r_is : Numbers cs' crown.root (attached r.root k.root) =
    makes_of attached cs' above.root below.root crown.root r.root k.root m2 (e above.root r.root at.root) (e below.root k.root root_is) in
    let part = attached r.root k.root in
    item-more (λ (r : Parted). item_line (made Join (parted_row k) (parted_row r))) out now later rs i r at.is (before k rs skeleton_is root_is others_is are)
    (w (merged r.skeleton k.skeleton) part s_is r_is
    ∙ ap (λ (t : List ℕ). now ++ t)
    (line_of (merged r.skeleton k.skeleton) (part ∷ k.others) r.others (spaced part ++ others) end (ap (λ (t : List ℕ). spaced part ++ t) others_is) end_is))

pub joined_all : (cs : List Code) (below : Crown) (others : List ℕ) (crowns : List Crown) (ends : List (List ℕ)) (i : ℕ) (out now : List ℕ) → length crowns ≤ i
    → JoinedSoFar cs below others crowns ends i out now → WritesJoined cs below others crowns ends out now
joined_all cs below others crowns ends i out now end before k rs skeleton_is root_is others_is are =
    before k rs skeleton_is root_is others_is are
    ∙ ap (λ (xs : List Parted). out ++ lines_under Join parted_row (parted_row k) xs) (take_all i rs (omega (arith, end, crowns_count cs crowns rs are.crowns_are)))

abbrev pub AllJoinedSoFar : List Code → List Crown → List (List ℕ) → List Crown → List (List ℕ) → ℕ → List ℕ → List ℕ → Type 0
AllJoinedSoFar cs kids texts crowns ends i out now =
    (ks rs : List Parted) → AreParts [] cs kids texts ks → AreParts line_end cs crowns ends rs → now ≡ out ++ all_lines Join parted_row (take i ks) rs

pub all_joined_more : (cs cs' : List Code) (kids : List Crown) (texts : List (List ℕ)) (crowns : List Crown) (ends : List (List ℕ)) (i : ℕ) (below : Crown) (others out now later : List ℕ) → Extends cs cs'
    → slice_get kids i ≡ Some below → slice_get texts i ≡ Some others → WritesJoined cs' below others crowns ends now later
    → AllJoinedSoFar cs kids texts crowns ends i out now → AllJoinedSoFar cs kids texts crowns ends (i + 1) out later
all_joined_more cs cs' kids texts crowns ends i below others out now later e here there w before ks rs kids_are are =
    let at = crown_at cs kids ks i below kids_are.crowns_are here in
    let k = at.item in
    let others_is : others ≡ others_text [] k = text_at (others_text []) ks texts i k others kids_are.texts_are at.is there in
    item-more (λ (k : Parted). lines_under Join parted_row (parted_row k) rs) out now later ks i k at.is (before ks rs kids_are are)
    (w k rs (e below.skeleton k.skeleton at.skeleton) (e below.root k.root at.root) (bare k.others others others_is) (parts_more line_end cs cs' crowns ends rs e are))

pub all_joined_all : (cs : List Code) (kids : List Crown) (texts : List (List ℕ)) (crowns : List Crown) (ends : List (List ℕ)) (i : ℕ) (out now : List ℕ) → length kids ≤ i
    → AllJoinedSoFar cs kids texts crowns ends i out now → WritesAllJoined cs kids texts crowns ends out now
all_joined_all cs kids texts crowns ends i out now end before ks rs kids_are are =
    before ks rs kids_are are
    ∙ ap (λ (xs : List Parted). out ++ all_lines Join parted_row xs rs) (take_all i ks (omega (arith, end, crowns_count cs kids ks kids_are.crowns_are)))

-- ---- partitions that cut it
abbrev pub SeveredSoFar : List Code → ℕ → List ℕ → List Crown → List (List ℕ) → ℕ → List ℕ → List ℕ → Type 0
SeveredSoFar cs hung parts crowns ends i out now =
    (k : Parted) (rs : List Parted) → Numbers cs hung k.skeleton → parts ≡ trees_text (k.root ∷ k.others)
    → AreParts line_end cs crowns ends rs → now ≡ out ++ lines_under Sever parted_row (parted_row k) (take i rs)

pub severed_more : (cs cs' : List Code) (hung : ℕ) (parts : List ℕ) (crowns : List Crown) (ends : List (List ℕ)) (i : ℕ) (above : Crown) (skeleton : ℕ) (end out now later : List ℕ) → Extends cs cs'
    → slice_get crowns i ≡ Some above → slice_get ends i ≡ Some end → Makes attached cs' above.skeleton hung skeleton
    → WritesPartLine cs' skeleton above.root parts end now later
    → SeveredSoFar cs hung parts crowns ends i out now → SeveredSoFar cs hung parts crowns ends (i + 1) out later
severed_more cs cs' hung parts crowns ends i above skeleton end out now later e here there m w before k rs hung_is parts_is are =
    let at = crown_at cs crowns rs i above are.crowns_are here in
    let r = at.item in
    let end_is : end ≡ others_text line_end r = text_at (others_text line_end) rs ends i r end are.texts_are at.is there in
    let s_is : Numbers cs' skeleton (attached r.skeleton k.skeleton) =
    makes_of attached cs' above.skeleton hung skeleton r.skeleton k.skeleton m (e above.skeleton r.skeleton at.skeleton) (e hung k.skeleton hung_is) in
    item-more (λ (r : Parted). item_line (made Sever (parted_row k) (parted_row r))) out now later rs i r at.is (before k rs hung_is parts_is are)
    (w (attached r.skeleton k.skeleton) r.root s_is (e above.root r.root at.root)
    ∙ ap (λ (t : List ℕ). now ++ t)
    (line_of (attached r.skeleton k.skeleton) (r.root ∷ (k.root ∷ k.others)) r.others (spaced r.root ++ parts) end (ap (λ (t : List ℕ). spaced r.root ++ t) parts_is) end_is))

pub severed_all : (cs : List Code) (hung : ℕ) (parts : List ℕ) (crowns : List Crown) (ends : List (List ℕ)) (i : ℕ) (out now : List ℕ) → length crowns ≤ i
    → SeveredSoFar cs hung parts crowns ends i out now → WritesSevered cs hung parts crowns ends out now
severed_all cs hung parts crowns ends i out now end before k rs hung_is parts_is are =
    before k rs hung_is parts_is are
    ∙ ap (λ (xs : List Parted). out ++ lines_under Sever parted_row (parted_row k) xs) (take_all i rs (omega (arith, end, crowns_count cs crowns rs are.crowns_are)))

abbrev pub AllSeveredSoFar : List Code → List Crown → List (List ℕ) → List Crown → List (List ℕ) → ℕ → List ℕ → List ℕ → Type 0
AllSeveredSoFar cs kids texts crowns ends i out now =
    (ks rs : List Parted) → AreParts [] cs kids texts ks → AreParts line_end cs crowns ends rs → now ≡ out ++ all_lines Sever parted_row (take i ks) rs

-- the parts of one partition of the first child: that of its root, and the text of the others
pub all_severed_more : (cs cs1 : List Code) (kids : List Crown) (texts : List (List ℕ)) (crowns : List Crown) (ends : List (List ℕ)) (i : ℕ) (below : Crown) (others root parts out now later : List ℕ)
    → Extends cs cs1 → slice_get kids i ≡ Some below → slice_get texts i ≡ Some others
    → ((code : Code) → Numbers cs1 below.root code → root ≡ spaced code) → parts ≡ root ++ others → WritesSevered cs1 below.skeleton parts crowns ends now later
    → AllSeveredSoFar cs kids texts crowns ends i out now → AllSeveredSoFar cs kids texts crowns ends (i + 1) out later
all_severed_more cs cs1 kids texts crowns ends i below others root parts out now later e here there root_is parts_is w before ks rs kids_are are =
    let at = crown_at cs kids ks i below kids_are.crowns_are here in
    let k = at.item in
    let others_is : others ≡ others_text [] k = text_at (others_text []) ks texts i k others kids_are.texts_are at.is there in
    let all_is : parts ≡ trees_text (k.root ∷ k.others) =
    parts_is ∙ ap (λ (t : List ℕ). t ++ others) (root_is k.root (e below.root k.root at.root)) ∙ ap (λ (t : List ℕ). spaced k.root ++ t) (bare k.others others others_is) in
    item-more (λ (k : Parted). lines_under Sever parted_row (parted_row k) rs) out now later ks i k at.is (before ks rs kids_are are)
    (w k rs (e below.skeleton k.skeleton at.skeleton) all_is (parts_more line_end cs cs1 crowns ends rs e are))

pub all_severed_all : (cs : List Code) (kids : List Crown) (texts : List (List ℕ)) (crowns : List Crown) (ends : List (List ℕ)) (i : ℕ) (out now : List ℕ) → length kids ≤ i
    → AllSeveredSoFar cs kids texts crowns ends i out now → WritesAllSevered cs kids texts crowns ends out now
all_severed_all cs kids texts crowns ends i out now end before ks rs kids_are are =
    before ks rs kids_are are
    ∙ ap (λ (xs : List Parted). out ++ all_lines Sever parted_row xs rs) (take_all i ks (omega (arith, end, crowns_count cs kids ks kids_are.crowns_are)))
