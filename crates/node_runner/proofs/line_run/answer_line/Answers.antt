use Rattle.std.proofs.Common.{◌≡◌, ◌∷◌, [], Some, None, true, false, refl, sym, ◌∙◌, ap, append-nil, rules}
use Rattle.std.specs.List.{cons_option}
use Rattle.node_runner.specs.Text.{text_of_reply}
use Rattle.node_runner.specs.Script.{is_passed_over, command_at}
use Rattle.node_runner.specs.Run.{is_said, spelled}
use Rattle.node_runner.proofs.Blocks.{stands_spelled, breaks_line}
use Rattle.node_runner.proofs.line_run.answer_line.Goals as goal

pub returns-in-Ok : goal.returns-in-Ok
returns-in-Ok c =
    let a = c.in-Ok.ensures in
    let said : is_said false c.args.line.now ≡ true = search rules in
    let words : is_passed_over c.args.line.now ≡ false = search rules in
    let at : command_at false c.args.line.now ≡ Some c.in-Some.command = search rules in
    let spells : spelled c.args.line.now ≡ Some c.in-Some.command = stands_spelled false c.args.line.now c.in-Some.command words at in
    record {
      turns = record { command = c.in-Some.command; own = []; lost = None; reply = a.reply } ∷ [];
      answered = record {
        in_language = said;
        commands = sym (ap (λ o. cons_option o []) spells);
        are_turns = (c.answer.new.kept.store, a.answers, refl);
        saids = a.saids;
      };
      text_is = a.text_is ∙ sym (append-nil (text_of_reply a.reply));
    }

pub returns-in-Err : goal.returns-in-Err
returns-in-Err c =
    let said : is_said false c.args.line.now ≡ true = search rules in
    let words : is_passed_over c.args.line.now ≡ false = search rules in
    let at : command_at false c.args.line.now ≡ Some c.in-Some.command = search rules in
    let spells = stands_spelled false c.args.line.now c.in-Some.command words at in
    breaks_line c.args.line.now c.in-Some.command c.args.kept.now c.answer.new.kept said spells c.in-Err.ensures
