use Rattle.std.proofs.Common.{ℕ, ◌≡◌, sym, ◌∙◌, List, length}
use Rattle.line_input.specs.declared.state.Input.{Input}
use Rattle.line_input.specs.declared.finding.Step.{Step}
use Rattle.line_input.specs.Finding.{Lies, next_of}
use Rattle.line_input.proofs.LawsFinding.{lies, next_unfinished, next_is_line}
use Rattle.line_input.proofs.finding.next_line.Goals as goal

-- a line that is handed over lies in the buffer
lying : (i : Input) (buf : List ℕ) {r : Step} → r ≡ next_of i buf → Lies r.next (length buf)
lying i buf e = rw e (lies i buf)

pub returns-then-to-eq0-clause-lies : goal.returns-then-to-eq0-clause-lies
returns-then-to-eq0-clause-lies c =
    lying c.args.input c.args.buf.now (c.unfinished.ensures ∙ next_unfinished c.args.input c.args.buf.now c.min-end.ensures c.past_skipped-begun.ensures c.line_end-to.ensures c.if-to-eq0.true)

pub returns-clause-lies : goal.returns-clause-lies
returns-clause-lies c =
    lying c.args.input c.args.buf.now (c.line.ensures ∙ next_is_line c.args.input c.args.buf.now c.min-end.ensures c.past_skipped-begun.ensures c.line_end-to.ensures c.if-to-eq0.false (sym c.fills.ensures ∙ c.if-fills.false))
