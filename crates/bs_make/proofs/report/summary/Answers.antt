use Rattle.std.proofs.Common.{◌≡◌, ◌*◌, ◌++◌, List, ℕ, [], ◌∷◌, ◌∙◌, codes, decimal, length, flat_map, ap}
use Rattle.bs_make.specs.Made.{joined}
use Rattle.bs_make.specs.declared.TheConstants.{MADE_SESSIONS, MADE_COMMANDS}
use Rattle.bs_make.specs.Summary.{summary_lines, error_count, folded}
use Rattle.bs_make.proofs.Texts.{lines_more}
use Rattle.bs_make.proofs.Told.{told_bytes, told_errors, told_folding}
use Rattle.bs_make.proofs.report.summary.Goals as goal

pub returns : goal.returns
unfolding summary_lines
returns c =
    let text = flat_map (λ piece. piece.items) c.args.reply.now in
    let bytes : c.bytes.result ≡ length text = c.bytes.ensures ∙ ap (λ t. t.bytes) c.of-tally.ensures ∙ told_bytes text in
    let errors : c.errors.result ≡ error_count text = c.errors.ensures ∙ ap (λ t. t.errors) c.of-tally.ensures ∙ told_errors text in
    let folding : c.from-4.result ≡ folded text = c.from-4.ensures ∙ c.folding.ensures ∙ ap (λ t. t.folding) c.of-tally.ensures ∙ told_folding text in
    let line : List ℕ → ℕ → List (List ℕ) = λ w n. (w ++ decimal n) ∷ [] in
    let l1 = line (codes "seed ") c.args.seed in
    let l2 = line (codes "input ") (length c.args.input.now) in
    let l3 = line (codes "sessions ") MADE_SESSIONS in
    let l4 = line (codes "commands ") (MADE_SESSIONS * MADE_COMMANDS) in
    let l5 = line (codes "reply ") (length text) in
    let l6 = line (codes "errors ") (error_count text) in
    let l7 = line (codes "fold ") (folded text) in
    let none = c.new-out.result.items in
    let o1 = c.write_line.new.out.items in
    let o2 = c.write_line-2.new.out.items in
    let o3 = c.write_line-3.new.out.items in
    let o4 = c.write_line-4.new.out.items in
    let o5 = c.write_line-5.new.out.items in
    let o6 = c.write_line-6.new.out.items in
    let o7 = c.write_line-7.new.out.items in
    let e1 : o1 ≡ none ++ joined l1 = c.in_ok-write_line.ensures ∙ ap (λ n. none ++ joined (line (codes "seed ") n)) c.from.ensures in
    let e2 : o2 ≡ none ++ joined (l1 ++ l2) = lines_more none o1 o2 l1 l2 e1 c.in_ok-write_line-2.ensures in
    let e3 : o3 ≡ none ++ joined (l1 ++ l2 ++ l3) = lines_more none o2 o3 (l1 ++ l2) l3 e2 (c.in_ok-write_line-3.ensures ∙ ap (λ n. o2 ++ joined (line (codes "sessions ") n)) c.from-2.ensures) in
    let e4 : o4 ≡ none ++ joined (l1 ++ l2 ++ l3 ++ l4) = lines_more none o3 o4 (l1 ++ l2 ++ l3) l4 e3 (c.in_ok-write_line-4.ensures ∙ ap (λ n. o3 ++ joined (line (codes "commands ") n)) c.from-3.ensures) in
    let e5 : o5 ≡ none ++ joined (l1 ++ l2 ++ l3 ++ l4 ++ l5) = lines_more none o4 o5 (l1 ++ l2 ++ l3 ++ l4) l5 e4 (c.in_ok-write_line-5.ensures ∙ ap (λ n. o4 ++ joined (line (codes "reply ") n)) bytes) in
    let e6 : o6 ≡ none ++ joined (l1 ++ l2 ++ l3 ++ l4 ++ l5 ++ l6) = lines_more none o5 o6 (l1 ++ l2 ++ l3 ++ l4 ++ l5) l6 e5 (c.in_ok-write_line-6.ensures ∙ ap (λ n. o5 ++ joined (line (codes "errors ") n)) errors) in
    let e7 : o7 ≡ none ++ joined (l1 ++ l2 ++ l3 ++ l4 ++ l5 ++ l6 ++ l7) = lines_more none o6 o7 (l1 ++ l2 ++ l3 ++ l4 ++ l5 ++ l6) l7 e6 (c.in_ok-write_line-7.ensures ∙ ap (λ n. o6 ++ joined (line (codes "fold ") n)) folding) in
    e7 ∙ ap (λ o. o ++ joined (l1 ++ l2 ++ l3 ++ l4 ++ l5 ++ l6 ++ l7)) c.new-out.ensures.items
