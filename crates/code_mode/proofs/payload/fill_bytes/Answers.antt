use Rattle.std.proofs.Common.{◌≡◌, ◌/◌, ◌^◌, ℕ, ap, ◌∙◌, rules}
use Rattle.code_mode.specs.Payload.{next_state, fill_byte}
use Rattle.code_mode.proofs.PayloadLemmas.{fill_more}
use Rattle.code_mode.proofs.payload.fill_bytes.Goals as goal

pub bytes-preserved : goal.bytes-preserved
bytes-preserved c =
    let state = c.next_state-state.ensures ∙ ap next_state c.bytes.invariant.state in
    let byte : c.top_byte.result ≡ fill_byte c.args.seed c.bytes.counter = c.top_byte.ensures ∙ ap (λ (x : ℕ). x / 2 ^ 56) state in
    record {
      state = search rules;
      bytes = fill_more c.args.seed c.bytes.counter _ _ _ c.bytes.invariant.bytes byte c.in_ok-push.ensures.items;
    }
