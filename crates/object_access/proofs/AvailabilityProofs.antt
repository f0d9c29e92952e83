-- An object whose blobs are all available is got, as each of them is.
use Rattle.std.proofs.Common.{◌≡◌, ℕ, zero, suc, ◌+◌, ◌<◌, inl, inr, List, [], ◌∷◌, ◌++◌, map, Result, Ok, Err, refl, sym, ◌∙◌, ap, subst, append_assoc, add-zero, arith}
use Rattle.std.specs.List.{range_with_len}
use Rattle.unit_id.specs.Lists.{is_in}
use Rattle.unit_id.proofs.Bools.{contrary, not_so}
use Rattle.volume_world.specs.Run.{World}
use Rattle.volume_world.specs.Told.{MayBe, MayRun}
use Rattle.volume_world.specs.declared.trace.Trace.{Trace}
use Rattle.volume_world.specs.Way.{Origin, shape_of}
use Rattle.volume_world.specs.Possible.{IsPossible}
use Rattle.volume_world.specs.Course.{Part, trace_at, traces_of, PartLeads, PartsLead}
use Rattle.volume_world.proofs.Stretches.{leads_on}
use Rattle.blob_access.specs.declared.fault.GetFault.{GetFault}
use Rattle.blob_access.specs.Causes.{IsAvailable, GetsGiveTheBlob}
use Rattle.blob_access.proofs.PutLemmas.{in_first, in_second}
use Rattle.blob_access.proofs.Later.{parts_later}
use Rattle.blob_access.proofs.LastTries.{leads_split}
use Rattle.blob_access.proofs.GivenBlobs.{parts_acked}
use Rattle.object_access.specs.Pieces.{blob_count, blob_size, blob_sizes}
use Rattle.object_access.specs.ObjectGet.{ObjectGetsBy, IsObject}
use Rattle.object_access.specs.Availability.{GivesObject, ObjectsAreGot}
use Rattle.object_access.proofs.GetLemmas.{parts_stay, object_stays, object_more, object_none}

-- ---- states that are possible

part_may : (origin : Origin) (w : World) (part : Part) (v : World) → PartLeads origin w part v → MayBe origin.vid (shape_of origin) w (trace_at part) v
part_may origin w (Part.Beside trace) v h = h
part_may origin w (Part.Settling trace) v h = h
part_may origin w (Part.Asking event reply) v h = record { step = h.step; told = h.told; leads = h.leads }

parts_run : (origin : Origin) (w : World) (parts : List Part) (v : World) → PartsLead origin w parts v → MayRun origin.vid (shape_of origin) w (traces_of parts) v
parts_run origin w [] v h = h
parts_run origin w (part ∷ parts) v h = (h.0, part_may origin w part h.0 h.1, parts_run origin h.0 parts v h.2)

run_further : (origin : Origin) (start w : World) (entries : List Trace) (parts : List Part) (v : World) → MayRun origin.vid (shape_of origin) start entries w → PartsLead origin w parts v
    → MayRun origin.vid (shape_of origin) start (entries ++ traces_of parts) v
run_further origin start w [] parts v run leads = subst (λ (x : World). MayRun origin.vid (shape_of origin) x (traces_of parts) v) run (parts_run origin w parts v leads)
run_further origin start w (trace ∷ entries) parts v run leads = (run.0, run.1, run_further origin run.0 w entries parts v run.2 leads)

possible_on : (origin : Origin) (w : World) (parts : List Part) (v : World) → IsPossible origin w → PartsLead origin w parts v → IsPossible origin v
possible_on origin w parts v h leads = record { entries = h.entries ++ traces_of parts; first = h.first; led = run_further origin origin.start w h.entries parts v h.led leads }

-- ---- parts of a stretch in which a blob is available

module _ (origin : Origin) (bid : ℕ) (w u v : World) (ps qs : List Part) (front : PartsLead origin w ps u) (back : PartsLead origin u qs v) (there : IsAvailable origin bid w (ps ++ qs) v) where
  pub available_first : IsAvailable origin bid w ps u
  available_first = record {
    acked = there.acked;
    unasked = not_so (is_in bid u.state.manager.asked) (λ asked. contrary (is_in bid v.state.manager.asked) ((parts_later origin u qs v back).manager.asked bid asked) there.unasked);
    heard = λ failed. there.heard (record { unit = failed.unit; disk = failed.disk; reply = failed.reply; failed = failed.failed; there = in_first _ ps qs failed.there });
    few_broken = λ before behind x split leads goes.
        there.few_broken before (behind ++ qs) x (ap (λ parts. parts ++ qs) split ∙ append_assoc before behind qs) leads (leads_on origin x u v behind qs goes back);
  }

  pub available_second : IsAvailable origin bid u qs v
  available_second = record {
    acked = parts_acked origin bid w ps u front there.acked;
    unasked = there.unasked;
    heard = λ failed. there.heard (record { unit = failed.unit; disk = failed.disk; reply = failed.reply; failed = failed.failed; there = in_second _ ps qs failed.there });
    few_broken = λ before behind x split leads goes.
        there.few_broken (ps ++ before) behind x (ap (λ parts. ps ++ parts) split ∙ sym (append_assoc ps before behind)) (leads_on origin w u x ps before front leads) goes;
  }

-- ---- the blobs from a place on

gives_from : GetsGiveTheBlob → (origin : Origin) (first size : ℕ) (result : Result (List ℕ) GetFault) (whole done : List Part) (count place : ℕ) (before : List ℕ) (parts : List Part) (w v : World)
    → place + count ≡ blob_count size → whole ≡ done ++ parts → IsPossible origin w → IsObject w first place before
    → ObjectGetsBy origin.mode (first + place) (map (blob_size size) (range_with_len place count)) before parts result → PartsLead origin w parts v
    → ((k : ℕ) → k < blob_count size → IsAvailable origin (first + k) w parts v) → GivesObject v first size whole result
gives_from each origin first size result whole done zero place before parts w v last split possible object gets leads available =
    let all : place ≡ blob_count size = omega (arith, last) in
    subst (λ r. GivesObject v first size whole r) (sym gets.1) (subst (λ n. IsObject v first n before) all (object_stays w v first place before (parts_stay origin w parts v leads) object))
gives_from each origin first size result whole done (suc count) place before parts w v last split possible object (inl h) leads available =
    let blob = h.0 in
    let rest = h.1 in
    let one = h.2 in
    let below : place < blob_count size = omega (arith, last) in
    let halves = leads_split origin w v one.own rest (subst (λ ps. PartsLead origin w ps v) one.split leads) in
    let u = halves.0 in
    let there = λ (k : ℕ) (less : k < blob_count size). subst (λ ps. IsAvailable origin (first + k) w ps v) one.split (available k less) in
    let given = each origin (first + place) (blob_size size place) (Ok blob) one.own w u possible one.gets halves.1 (available_first origin (first + place) w u v one.own rest halves.1 halves.2 (there place below)) in
    gives_from each origin first size result whole (done ++ one.own) count (place + 1) (before ++ blob) rest u v (omega (arith, last))
    (split ∙ ap (λ ps. done ++ ps) one.split ∙ sym (append_assoc done one.own rest))
    (possible_on origin w one.own u possible halves.1)
    (object_more u first place before blob (object_stays w u first place before (parts_stay origin w one.own u halves.1) object) given)
    (subst (λ number. ObjectGetsBy origin.mode number (map (blob_size size) (range_with_len (place + 1) count)) (before ++ blob) rest result) (omega arith) h.3)
    halves.2
    (λ k less. available_second origin (first + k) w u v one.own rest halves.1 halves.2 (there k less))
gives_from each origin first size result whole done (suc count) place before parts w v last split possible object (inr h) leads available =
    let below : place < blob_count size = omega (arith, last) in
    subst (λ r. GivesObject v first size whole r) (sym h.given) (record {
      place = place;
      within = below;
      before = done;
      own = parts;
      split = split;
      gives = each origin (first + place) (blob_size size place) (Err h.fault) parts w v possible h.gets leads (available place below);
    })

pub objects_are_got : GetsGiveTheBlob → ObjectsAreGot
objects_are_got each origin first size result parts w v possible gets leads available =
    gives_from each origin first size result parts [] (blob_count size) 0 [] parts w v (omega arith) refl possible (object_none w first)
    (subst (λ number. ObjectGetsBy origin.mode number (blob_sizes size) [] parts result) (sym (add-zero first)) gets) leads available
