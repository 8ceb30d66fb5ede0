-- Worked examples: which events are allowed, and how many entries stand, in stores of one stripe.
use Rattle.std.proofs.Common.{◌≡◌, ℕ, List, [], ◌∷◌, ◌++◌, refl}
use Rattle.bs_core.specs.Codes.{Code, children, same, stripe_of}
use Rattle.bs_core.specs.Machine.{step, run, opening, live}
use Rattle.bs_core.specs.declared.name.Name.{Name}
use Rattle.bs_core.specs.declared.event.Event.{Event}
use Rattle.bs_core.specs.declared.event.Event.TheVariants.{Intern, Release}
use Rattle.bs_core.specs.declared.event.Outcome.TheVariants.{Done, NotAllowed}

abbrev x : ℕ → Name
x s = record { stripe = 0; slot = s }

abbrev leaf : Code
leaf = (1, 0) ∷ []

abbrev edge : Code
edge = (1, 0) ∷ (2, 0) ∷ []

-- 1,2,3,2 and 1,2,2,2
abbrev branched : Code
branched = (1, 0) ∷ (2, 0) ∷ (3, 0) ∷ (2, 0) ∷ []

abbrev bushy : Code
bushy = (1, 0) ∷ (2, 0) ∷ (2, 0) ∷ (2, 0) ∷ []

-- a tree by its children in order, each by the same rule
abbrev interns_branched : List Event
interns_branched = Intern 0 leaf (x 0) ∷ Intern 0 edge (x 1) ∷ Intern 0 leaf (x 0) ∷ Intern 0 branched (x 2) ∷ []

abbrev interns_bushy : List Event
interns_bushy = Intern 0 leaf (x 0) ∷ Intern 0 leaf (x 0) ∷ Intern 0 leaf (x 0) ∷ Intern 0 bushy (x 3) ∷ []

-- what an entry that leaves linked is released in turn
abbrev releases_branched : List Event
releases_branched = Release 0 (x 2) ∷ Release 0 (x 1) ∷ Release 0 (x 0) ∷ Release 0 (x 0) ∷ []

abbrev releases_bushy : List Event
releases_bushy = Release 0 (x 3) ∷ Release 0 (x 0) ∷ Release 0 (x 0) ∷ Release 0 (x 0) ∷ []

three_entries : live (run 1 interns_branched (opening 1 1)).tables ≡ 3
unfolding children same stripe_of
three_entries = refl

four_entries : live (run 1 (interns_branched ++ interns_bushy) (opening 1 1)).tables ≡ 4
unfolding children same stripe_of
four_entries = refl

two_entries : live (run 1 (interns_branched ++ (interns_bushy ++ releases_branched)) (opening 1 1)).tables ≡ 2
unfolding children same stripe_of
two_entries = refl

no_entries : live (run 1 (interns_branched ++ (interns_bushy ++ (releases_branched ++ releases_bushy))) (opening 1 1)).tables ≡ 0
unfolding children same stripe_of
no_entries = refl

-- a slot above the mark; the mark; another party's pair; children that are not held
above_the_mark : (step 1 (Intern 0 leaf (x 1)) (opening 1 2)).outcome ≡ NotAllowed
unfolding children same stripe_of
above_the_mark = refl

at_the_mark : (step 1 (Intern 0 leaf (x 0)) (opening 1 2)).outcome ≡ Done
unfolding children same stripe_of
at_the_mark = refl

another_party : (step 1 (Release 1 (x 0)) (run 1 (Intern 0 leaf (x 0) ∷ []) (opening 1 2))).outcome ≡ NotAllowed
unfolding children same stripe_of
another_party = refl

no_child : (step 1 (Intern 0 edge (x 0)) (opening 1 2)).outcome ≡ NotAllowed
unfolding children same stripe_of
no_child = refl

-- a vacant slot below the mark is used before the mark
below_the_mark : (step 1 (Intern 0 ((1, 2) ∷ []) (x 2)) (run 1 (Intern 0 leaf (x 0) ∷ Intern 0 ((1, 1) ∷ []) (x 1) ∷ Release 0 (x 0) ∷ []) (opening 1 1))).outcome ≡ NotAllowed
unfolding children same stripe_of
below_the_mark = refl

vacant_again : (step 1 (Intern 0 ((1, 2) ∷ []) (x 0)) (run 1 (Intern 0 leaf (x 0) ∷ Intern 0 ((1, 1) ∷ []) (x 1) ∷ Release 0 (x 0) ∷ []) (opening 1 1))).outcome ≡ Done
unfolding children same stripe_of
vacant_again = refl
