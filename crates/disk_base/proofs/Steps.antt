-- What the calls make of a file in memory, from what they make of its fields.
use Rattle.std.proofs.Common.{◌≡◌, ℕ, ◌-◌, min, List, [], ◌∷◌, ◌++◌, length, take, drop, reverse, Option, ap, ◌∙◌, arith}
use Rattle.std.proofs.lemmas.List.{reverse-append}
use Rattle.disk_base.specs.declared.mem_file.Change.{Change}
use Rattle.disk_base.specs.declared.mem_file.Change.TheVariants.{Write}
use Rattle.disk_base.specs.Disk.{overwritten}
use Rattle.disk_base.specs.Faults.{Plan, fails_next, after_call}
use Rattle.disk_base.specs.Images.{FileState, after_write}
use Rattle.disk_base.specs.History.{written_in, past_of}
use Rattle.disk_base.proofs.Undo.{past_of-pushed}

-- a file as its fields show it
abbrev pub fields_shown : Plan → Option (List ℕ) → List ℕ → ℕ → List Change → List ℕ → ℕ → ℕ → FileState
fields_shown plan lies bytes settled_end changes replaced room spare = record {
  plan = plan;
  lies = lies;
  present = record { bytes = bytes; settled_end = settled_end; written = written_in (reverse changes) };
  past = past_of (reverse changes) replaced bytes;
  room = room;
  spare = spare;
}

written_in-write : (changes : List Change) (at count end : ℕ) → written_in (reverse (changes ++ Write at count end ∷ [])) ≡ record { at = at; count = count } ∷ written_in (reverse changes)
written_in-write changes at count end = ap written_in (reverse-append changes (Write at count end ∷ []))

pub wrote : (plan : Plan) (lies : Option (List ℕ)) (b w replaced : List ℕ) (changes : List Change) (settled_end room spare at : ℕ) →
    let start = min at (length b) in
    fields_shown (after_call (fails_next plan) plan) lies (overwritten b start w) settled_end (changes ++ Write start (length w) (length b) ∷ []) (replaced ++ take (length w) (drop start b)) room (spare - 1)
    ≡ after_write at w (fields_shown plan lies b settled_end changes replaced room spare)
wrote plan lies b w replaced changes settled_end room spare at =
    let start = min at (length b) in
    let written = written_in-write changes start (length w) (length b) in
    let past = past_of-pushed changes replaced b w start (omega arith) in
    λ i. record {
      plan = after_call (fails_next plan) plan;
      lies = lies;
      present = record { bytes = overwritten b start w; settled_end = settled_end; written = written i };
      past = past i;
      room = room;
      spare = spare - 1;
    }

pub wrote_by : (plan new_plan : Plan) (lies : Option (List ℕ)) (b new_b w replaced new_replaced : List ℕ) (changes new_changes : List Change) (settled_end room spare at start : ℕ) →
    new_plan ≡ after_call (fails_next plan) plan → start ≡ min at (length b) → new_b ≡ overwritten b start w → new_replaced ≡ replaced ++ take (length w) (drop start b) → new_changes ≡ changes ++ Write start (length w) (length b) ∷ [] →
    fields_shown new_plan lies new_b settled_end new_changes new_replaced room (spare - 1) ≡ after_write at w (fields_shown plan lies b settled_end changes replaced room spare)
wrote_by plan new_plan lies b new_b w replaced new_replaced changes new_changes settled_end room spare at start plan_is start_is b_is replaced_is changes_is =
    let bytes = b_is ∙ ap (λ (s : ℕ). overwritten b s w) start_is in
    let kept = replaced_is ∙ ap (λ (s : ℕ). replaced ++ take (length w) (drop s b)) start_is in
    let log = changes_is ∙ ap (λ (s : ℕ). changes ++ Write s (length w) (length b) ∷ []) start_is in
    (λ i. fields_shown (plan_is i) lies (bytes i) settled_end (log i) (kept i) room (spare - 1))
    ∙ wrote plan lies b w replaced changes settled_end room spare at
