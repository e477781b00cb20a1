use Rattle.std.proofs.Common.{arith}
use Rattle.text.proofs.LawsText.{form_e0, form_ed, form_three, form_f0, form_four, form_f4, none_longer}
use Rattle.text.proofs.text.longer_form.Goals as goal

pub returns-in-224-clause-value : goal.returns-in-224-clause-value
returns-in-224-clause-value c = form_e0 c.args.bytes.now (grind arith) (grind arith)

pub returns-in-237-clause-value : goal.returns-in-237-clause-value
returns-in-237-clause-value c = form_ed c.args.bytes.now (grind arith) (grind arith)

pub returns-in-225-to-236-clause-value : goal.returns-in-225-to-236-clause-value
returns-in-225-to-236-clause-value c = form_three c.args.bytes.now (grind arith) (grind arith) (grind arith) (grind arith)

pub returns-in-240-clause-value : goal.returns-in-240-clause-value
returns-in-240-clause-value c = form_f0 c.args.bytes.now (omega arith) (grind arith)

pub returns-in-241-to-243-clause-value : goal.returns-in-241-to-243-clause-value
returns-in-241-to-243-clause-value c = form_four c.args.bytes.now (omega arith) (omega arith) (grind arith)

pub returns-in-244-clause-value : goal.returns-in-244-clause-value
returns-in-244-clause-value c = form_f4 c.args.bytes.now (omega arith) (grind arith)

pub returns-in_default-clause-value : goal.returns-in_default-clause-value
returns-in_default-clause-value c =
    none_longer c.args.bytes.now c.requires.there c.requires.longer (λ e f. grind arith) (λ e f. grind arith) (λ l h n f. grind arith) (λ e f. grind arith) (λ l h f. grind arith) (λ e f. grind arith)
