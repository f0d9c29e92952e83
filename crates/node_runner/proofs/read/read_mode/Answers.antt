use Rattle.std.proofs.Common.{◌≡◌, ◌∙◌, IfSome, List, ℕ, sym, subst}
use Rattle.std.specs.Str.{IsUtf8}
use Rattle.code_mode.specs.Mode.{mode_name}
use Rattle.node_runner.proofs.ModeNames.{mode_read, mode_none, mode_text}
use Rattle.node_runner.proofs.read.read_mode.Goals as goal

pub returns-in-Ok : goal.returns-in-Ok
returns-in-Ok c =
    let same : c.in-Ok.name.now ≡ c.args.word.now = c.in-Ok.ensures.cases.0 in
    mode_read c.args.word.now c.read_name.result
    (λ mode is. c.read_name.ensures.named mode (same ∙ is))
    (subst (λ (text : List ℕ). IfSome c.read_name.result (λ mode. text ≡ mode_name mode)) same c.read_name.ensures.only)

pub returns-in-Err : goal.returns-in-Err
returns-in-Err c = mode_none c.args.word.now (λ mode is. c.in-Err.ensures.cases.0 (subst IsUtf8 (sym is) (mode_text mode)))
