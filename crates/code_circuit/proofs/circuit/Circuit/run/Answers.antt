use Rattle.std.proofs.Common.{ℕ, ◌≡◌, ◌≤◌, ◌+◌, ◌∙◌, ap, sym, subst, arith, length, map}
use Rattle.std.proofs.lemmas.List.{length-map}
use Rattle.gf256.specs.Rows.{contents}
use Rattle.gf256.specs.Sums.{sums_of}
use Rattle.code_circuit.specs.Steps.{AreEven, after_steps, picked, unit_rows}
use Rattle.code_circuit.proofs.Tables.{even_loaded}
use Rattle.code_circuit.proofs.Circuits.{kept_more, kept_none}
use Rattle.code_circuit.proofs.circuit.Circuit.run.Goals as goal

pub loop-from-init : goal.loop-from-init
loop-from-init c =
    let circuit = c.self.inside in
    let all : c.len.result ≡ length circuit.outputs.items = omega (arith, c.len.ensures, circuit.outputs.ok.0) in
    record {
      within = omega arith;
      count = c.in_ok-registers.ensures.long;
      outputs_count = c.in_ok-outputs.ensures.long ∙ all;
      kept = kept_none circuit.outputs.items c.len.result (after_steps (unit_rows (length (contents c.args.sources.now)) circuit.registers) circuit.steps.items) (contents c.args.sources.now)
          (map (λ output. output.items) c.in_ok-outputs.outputs.items) all c.in_ok-outputs.ensures.empty;
    }

pub play-requires-clause-even : goal.play-requires-clause-even
play-requires-clause-even c = subst AreEven (sym c.in_ok-load.ensures.loaded) (even_loaded (contents c.args.sources.now) c.loop-from.from c.min-piece.result _)

pub loop-from-preserved : goal.loop-from-preserved
loop-from-preserved c =
    let circuit = c.self.inside in
    let lists = map (λ register. register.items) c.load.new.registers.items in
    let within : c.loop-from.from + c.min-piece.result ≤ c.args.size = omega arith in
    record {
      within = within;
      count = c.play.ensures.long ∙ c.load.ensures.long ∙ c.loop-from.invariant.count;
      outputs_count = c.keep.ensures.long ∙ c.loop-from.invariant.outputs_count;
      kept = kept_more circuit.steps.items circuit.outputs.items c.deref-in-loop-from-2.result.now circuit.registers (length c.loop-from.registers.items) c.loop-from.from c.min-piece.result (contents c.args.sources.now)
          (map (λ output. output.items) c.loop-from.outputs.items) (map (λ output. output.items) c.keep.new.outputs.items) lists (map (λ register. register.items) c.deref-in-loop-from.result.now)
          c.self.invariant.0 c.self.invariant.1 c.loop-from.invariant.count c.in_ok-load.ensures.bytes c.loop-from.invariant.kept c.in_ok-load.ensures.loaded
          (ap (map (λ register. register.items)) c.deref-in-loop-from.ensures.value ∙ c.play.ensures.after ∙ ap (after_steps lists) c.deref.ensures.value)
          c.deref-in-loop-from-2.ensures.value c.in_ok-keep.ensures.kept;
    }

pub returns : goal.returns
returns c =
    let circuit = c.self.inside in
    let sources = contents c.args.sources.now in
    let rows = λ (n : ℕ). picked circuit.outputs.items (after_steps (unit_rows n circuit.registers) circuit.steps.items) in
    let count : length sources ≡ circuit.sources = length-map c.args.sources.now (λ source. source.now) ∙ c.requires.count ∙ sym (ap (λ view. view.sources) c.self.view_is) in
    let whole : c.loop-from.from ≡ c.args.size = omega (arith, c.loop-from.invariant.within, c.loop-from-test.false) in
    c.loop-from.invariant.kept
    ∙ ap (λ n. map (λ row. sums_of row sources n) (rows (length sources))) whole
    ∙ ap (λ n. map (λ row. sums_of row sources c.args.size) (rows n)) count
    ∙ ap (λ view. map (λ row. sums_of row sources c.args.size) view.rows) c.self.view_is
