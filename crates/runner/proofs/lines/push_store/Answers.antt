use Rattle.std.proofs.Common.{ap, ◌++◌, ◌∙◌}
use Rattle.std.specs.Prelude.{None, codes}
use Rattle.runner.specs.FaultText.{line_text, store_code_of, store_fault_text}
use Rattle.runner.proofs.lines.push_store.Goals as goal

pub returns : goal.returns
unfolding store_fault_text
returns c =
    c.push_line.ensures.text
    ∙ ap (λ code. c.args.line.now ++ line_text (codes "store") code c.name.result.now None None) c.code.ensures
    ∙ ap (λ name. c.args.line.now ++ line_text (codes "store") (store_code_of c.args.fault) name None None) c.name.ensures
