-- The commands that want coefficients: the work that they begin comes to their reply.
use Rattle.std.proofs.Common.{◌≡◌, ℕ, suc, ◌≤◌, Bool, true, false, cond, List, ◌∷◌, length, Some, Result, Ok, Err, nat_lt, ◌==◌, refl, ap, arith}
use Rattle.std.proofs.lemmas.Bool.Decides.{nat_tests}
use Rattle.bs_enum.specs.AllTrees.{trees_to}
use Rattle.bs_tableau.specs.Table.{Table}
use Rattle.bs_series.specs.Series.{colours_of}
use Rattle.bs_series.specs.SeriesCode.{written_at}
use Rattle.bs_series.specs.Expressions.{series_at}
use Rattle.bs_eval.specs.Turns.{turns}
use Rattle.bs_reply.specs.Lines.{coeff_line}
use Rattle.bs_names.specs.Names.{at}
use Rattle.bs_names.specs.Known.{Tables, plain}
use Rattle.bs_names.specs.Space.{Space, Finds, known_of}
use Rattle.bs_command.specs.Asked.{order_to, few_to, order_asked, order_shared}
use Rattle.bs_command.specs.Commands.{two, three, has_colours, coeff_command, print_command, equal_command, command_of, command}
use Rattle.bs_command.specs.Verbs.{verb_of}
use Rattle.bs_work.specs.SeriesReplies.{print_reply, equal_reply}
use Rattle.bs_work.specs.Works.{IsWork, IsHeldWork, whole_reply, work_left, turns_to_print, turns_to_compare}
use Rattle.bs_command.specs.Toil.{toil_by, toil_of}
use Rattle.bs_work.specs.Needed.{need_at, need_to_print, need_to_compare}
use Rattle.bs_command.specs.Needed.{need_by, need_of}
use Rattle.bs_work.specs.WorkNeeded.{AreNeeded}
use Rattle.bs_command.specs.Changes.{Begins}
use Rattle.bs_order.specs.declared.TheConstants.{MAX_CONDITIONS}
use Rattle.bs_command.specs.declared.TheConstants.{MAX_COEFF_ORDER}
use Rattle.bs_command.specs.declared.error.Error.{Error}
use Rattle.bs_command.specs.declared.number.NumberFault.{NumberFault}
use Rattle.bs_command.specs.declared.number.NumberFault.TheVariants.{NoNumber, AboveLimit}
use Rattle.bs_names.specs.declared.live.LiveTree.{LiveTree}
use Rattle.bs_command.specs.declared.verb.Verb.{Verb}
use Rattle.bs_command.specs.declared.verb.Verb.TheVariants.{Coeff, Print, Equal}
use Rattle.bs_work.specs.declared.work.Work.{Work}
use Rattle.bs_eval.specs.declared.memory.Memory.{Memory}

module _ (tables : Tables) (space : Space) (ws : List (List ℕ)) (w : Work) where
  pub coeff-begins : (a b : List ℕ) (id : ℕ) (tree : LiveTree) → two ws ≡ Some (a, b) → Finds space a (Some id) → at b space.live ≡ Some tree
      → has_colours (colours_of (series_at space.book id)) tree.code ≡ true → length tree.code ≤ MAX_COEFF_ORDER
      → ((ts : List Table) → whole_reply ts space.book w ≡ coeff_line (written_at ts (series_at space.book id) tree.code))
      → ((ts : List Table) → IsWork ts space.book w) → ((m : Memory) → IsHeldWork space.book m w) → work_left space.book w ≤ suc (turns (series_at space.book id) tree.code)
      → AreNeeded space.book (need_at (series_at space.book id) tree.code) w
      → Begins (plain tables) space (coeff_command tables (known_of space) ws) (toil_by (known_of space) (Some Coeff) ws) (need_by (known_of space) (Some Coeff) ws) w
  coeff-begins a b id tree words finds live coloured small reply work held left needs =
      let short : nat_lt MAX_COEFF_ORDER (length tree.code) ≡ false = grind (arith, nat_tests, small) in
      record {
        is = rw (words, finds.1, live, coloured, short, reply (plain tables)) refl;
        work = work (plain tables);
        held = held;
        left = rw (words, finds.1, live) left;
        needs = rw (words, finds.1, live) needs;
      }

-- ---- the order that is asked for
few_is : (most k n p : ℕ) → few_to most k n ≡ Ok p → n ≡ p
few_is most k n p e = by (nat_lt most (trees_to n k)) e
  where
    by : (b : Bool) → (let r : Result ℕ Error = cond b (Err Rattle.bs_command.specs.declared.error.Error.TheVariants.TooMany) (Ok n) in r) ≡ Ok p → n ≡ p
    by true h = cc
    by false h = cc

order_is : (most k p : ℕ) (r : Result ℕ NumberFault) → order_asked most k r ≡ Ok p → r ≡ Ok p
order_is most k p (Err NoNumber) e = cc
order_is most k p (Err AboveLimit) e = cc
order_is most k p (Ok n) e = ap (λ m. let r : Result ℕ NumberFault = Ok m in r) (few_is most k n p e)

shared_is : (most j k p : ℕ) (r : Result ℕ NumberFault) → order_shared most j k r ≡ Ok p → r ≡ Ok p
shared_is most j k p (Err NoNumber) e = cc
shared_is most j k p (Err AboveLimit) e = by (j == k) e
  where
    by : (b : Bool) → (let r : Result ℕ Error = cond b (Err Rattle.bs_command.specs.declared.error.Error.TheVariants.TooLarge) (Err Rattle.bs_command.specs.declared.error.Error.TheVariants.Colours) in r) ≡ Ok p → (let r : Result ℕ NumberFault = Err AboveLimit in r) ≡ Ok p
    by true h = cc
    by false h = cc
shared_is most j k p (Ok n) e = ap (λ m. let r : Result ℕ NumberFault = Ok m in r) (by (j == k) e)
  where
    by : (b : Bool) → cond b (few_to most k n) (Err Rattle.bs_command.specs.declared.error.Error.TheVariants.Colours) ≡ Ok p → n ≡ p
    by true h = few_is most k n p h
    by false h = cc

module _ (tables : Tables) (space : Space) (ws : List (List ℕ)) (w : Work) where
  pub print-begins : (a b : List ℕ) (id p : ℕ) → two ws ≡ Some (a, b) → Finds space a (Some id)
      → order_asked MAX_CONDITIONS (colours_of (series_at space.book id)) (order_to b) ≡ Ok p
      → ((ts : List Table) → whole_reply ts space.book w ≡ print_reply ts (series_at space.book id) p)
      → ((ts : List Table) → IsWork ts space.book w) → ((m : Memory) → IsHeldWork space.book m w) → work_left space.book w ≤ turns_to_print (series_at space.book id) p
      → AreNeeded space.book (need_to_print (series_at space.book id) p) w
      → Begins (plain tables) space (print_command tables (known_of space) ws) (toil_by (known_of space) (Some Print) ws) (need_by (known_of space) (Some Print) ws) w
  print-begins a b id p words finds order reply work held left needs =
      let asked = order_is MAX_CONDITIONS (colours_of (series_at space.book id)) p (order_to b) order in
      record {
        is = rw (words, finds.1, order, reply (plain tables)) refl;
        work = work (plain tables);
        held = held;
        left = rw (words, finds.1, asked) left;
        needs = rw (words, finds.1, asked) needs;
      }

  pub equal-begins : (a b c : List ℕ) (i j p : ℕ) → three ws ≡ Some (a, b, c) → Finds space a (Some i) → Finds space b (Some j)
      → order_shared MAX_CONDITIONS (colours_of (series_at space.book i)) (colours_of (series_at space.book j)) (order_to c) ≡ Ok p
      → ((ts : List Table) → whole_reply ts space.book w ≡ equal_reply ts (series_at space.book i) (series_at space.book j) p)
      → ((ts : List Table) → IsWork ts space.book w) → ((m : Memory) → IsHeldWork space.book m w) → work_left space.book w ≤ turns_to_compare (series_at space.book i) (series_at space.book j) p
      → AreNeeded space.book (need_to_compare (series_at space.book i) (series_at space.book j) p) w
      → Begins (plain tables) space (equal_command tables (known_of space) ws) (toil_by (known_of space) (Some Equal) ws) (need_by (known_of space) (Some Equal) ws) w
  equal-begins a b c i j p words left_finds right_finds order reply work held left needs =
      let asked = shared_is MAX_CONDITIONS (colours_of (series_at space.book i)) (colours_of (series_at space.book j)) p (order_to c) order in
      record {
        is = rw (words, left_finds.1, right_finds.1, order, reply (plain tables)) refl;
        work = work (plain tables);
        held = held;
        left = rw (words, left_finds.1, right_finds.1, asked) left;
        needs = rw (words, left_finds.1, right_finds.1, asked) needs;
      }

-- ---- the command of a line
pub begins-line : (tables : Tables) (space : Space) (ws rest : List (List ℕ)) (first : List ℕ) (verb : Verb) (w : Work) → ws ≡ first ∷ rest → verb_of first ≡ Some verb
    → Begins (plain tables) space (command_of tables (known_of space) (Some verb) rest) (toil_by (known_of space) (Some verb) rest) (need_by (known_of space) (Some verb) rest) w
    → Begins (plain tables) space (command tables (known_of space) ws) (toil_of (known_of space) ws) (need_of (known_of space) ws) w
unfolding command toil_of need_of
begins-line tables space ws rest first verb w line is b = rw (line, is) b
