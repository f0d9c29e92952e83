-- Gets of an object that an earlier turn put.
use Rattle.std.proofs.Common.{◌≡◌, ℕ, zero, suc, ◌+◌, ◌<◌, List, [], ◌∷◌, ◌++◌, length, map, get_or, slice_index_or, Result, Ok, Err, refl, sym, ◌∙◌, ap, subst, arith}
use Rattle.std.proofs.lemmas.List.FromFn.{get_or-map-range_with_len}
use Rattle.unit_id.specs.Lists.{IsIn}
use Rattle.volume_world.specs.declared.event.Event.TheVariants as events
use Rattle.volume_world.specs.declared.reply.Reply.TheVariants as volume_replies
use Rattle.volume_world.specs.declared.trace.Trace.{Trace}
use Rattle.volume_world.specs.Run.{World}
use Rattle.volume_world.specs.Told.{MayBe, MayRun}
use Rattle.volume_world.specs.Way.{Origin, shape_of}
use Rattle.volume_world.specs.Possible.{IsPossible}
use Rattle.volume_world.specs.Course.{Part, trace_at, traces_of, PartLeads, PartsLead}
use Rattle.blob_access.specs.declared.fault.GetFault.{GetFault}
use Rattle.blob_access.specs.declared.fault.GetFault.TheVariants as get_faults
use Rattle.blob_access.specs.Causes.{IsAvailable, GivesBlob}
use Rattle.blob_access.specs.GetCall.{IsPayload}
use Rattle.blob_access.proofs.PutLemmas.{in_second}
use Rattle.object_access.specs.Pieces.{blob_count, blob_size, blob_sizes, pieces_of}
use Rattle.object_access.specs.ObjectGet.{ObjectGetsBy, IsObject}
use Rattle.object_access.specs.RoundTrip.{AreBegunWith, PiecesAreTheObject, PutObjectsAreBegun, ObjectsAreGotBack}
use Rattle.object_access.specs.Availability.{EndsWithABlob, ObjectsAreGot}
use Rattle.volume_turns.specs.declared.command.VolumeCommand.{VolumeCommand}
use Rattle.volume_turns.specs.declared.command.VolumeCommand.TheVariants as commands
use Rattle.volume_turns.specs.declared.reply.VolumeReply.{VolumeReply}
use Rattle.volume_turns.specs.declared.reply.VolumeReply.TheVariants as replies
use Rattle.volume_turns.specs.Answers.{Replied, got_reply}
use Rattle.volume_turns.specs.Turn.{GetTurn, TurnBy, ShowsBegun}
use Rattle.volume_turns.specs.Session.{Turn, joined}
use Rattle.volume_turns.specs.ObjectTurns.{HasPut, IsBehind, PutsAreShown, IsUndisturbed, PutObjectsAreGot}
use Rattle.volume_turns.proofs.ObjectProofs.{count_of_pieces, parts_stay, begun_stays, begun_at, turns_parts, IsKept, kept_behind}

-- ---- other bytes

-- what a turn shows, by its command and its reply
shows_as : (v : World) (turn : Turn) (command : VolumeCommand) (result : Replied) → turn.command ≡ command → turn.result ≡ result → ShowsBegun v turn.command turn.result → ShowsBegun v command result
shows_as v turn command result c r h = subst (λ (x : Replied). ShowsBegun v command x) r (subst (λ (x : VolumeCommand). ShowsBegun v x turn.result) c h)

got_shown : PutObjectsAreBegun → ObjectsAreGotBack → (origin : Origin) (before : List Turn) (put get : Turn) (first : ℕ) (object bytes : List ℕ) (w t u : World) → IsBehind origin w before t get u → IsIn put before
    → HasPut put first object → get.command ≡ commands.Get first (length object) → get.result ≡ Ok (replies.Got bytes) → bytes ≡ object
got_shown begun back origin before put get first object bytes w t u at i has command result =
    let kept = kept_behind begun origin w t before put first object at.each i has at.led in
    back origin first object bytes get.parts t u kept.begun at.leads.leads (shows_as u get (commands.Get first (length object)) (Ok (replies.Got bytes)) command result at.leads.shows)

fetched_shown : PutObjectsAreBegun → (origin : Origin) (before : List Turn) (put fetch : Turn) (first place size : ℕ) (object bytes : List ℕ) (w t u : World) → IsBehind origin w before t fetch u → IsIn put before
    → HasPut put first object → place < blob_count (length object) → fetch.command ≡ commands.Fetch (first + place) size → fetch.result ≡ Ok (replies.Fetched bytes)
    → bytes ≡ slice_index_or (pieces_of object) place []
fetched_shown begun origin before put fetch first place size object bytes w t u at i has below command result =
    let kept = kept_behind begun origin w t before put first object at.each i has at.led in
    let still = begun_stays t u first (pieces_of object) (parts_stay origin t fetch.parts u at.leads.leads) kept.begun in
    let one = begun_at u first (pieces_of object) place (subst (λ (n : ℕ). place < n) (sym (count_of_pieces object)) below) still in
    let shown : IsPayload u (first + place) bytes = shows_as u fetch (commands.Fetch (first + place) size) (Ok (replies.Fetched bytes)) command result at.leads.shows in
    sym shown.payload ∙ one.payload

pub puts_are_shown : PutObjectsAreBegun → ObjectsAreGotBack → PutsAreShown
puts_are_shown begun back = record { got = got_shown begun back; fetched = fetched_shown begun }

-- ---- states that are possible

part_may : (origin : Origin) (w : World) (part : Part) (v : World) → PartLeads origin w part v → MayBe origin.vid (shape_of origin) w (trace_at part) v
part_may origin w (Part.Beside trace) v h = h
part_may origin w (Part.Settling trace) v h = h
part_may origin w (Part.Asking event reply) v h = record { step = h.step; told = h.told; leads = h.leads }

run_further : (origin : Origin) (start w : World) (entries : List Trace) (parts : List Part) (v : World) → MayRun origin.vid (shape_of origin) start entries w → PartsLead origin w parts v
    → MayRun origin.vid (shape_of origin) start (entries ++ traces_of parts) v
run_further origin start w [] [] v run leads = leads ∙ run
run_further origin start w [] (part ∷ parts) v run leads =
    (leads.0, subst (λ (x : World). MayBe origin.vid (shape_of origin) x (trace_at part) leads.0) run (part_may origin w part leads.0 leads.1), run_further origin leads.0 leads.0 [] parts v refl leads.2)
run_further origin start w (trace ∷ entries) parts v run leads = (run.0, run.1, run_further origin run.0 w entries parts v run.2 leads)

possible_behind : (origin : Origin) (w : World) (parts : List Part) (v : World) → IsPossible origin w → PartsLead origin w parts v → IsPossible origin v
possible_behind origin w parts v h leads = record { entries = h.entries ++ traces_of parts; first = h.first; led = run_further origin origin.start w h.entries parts v h.led leads }

-- ---- availability

-- the length of the blob at a place
piece_size : (object : List ℕ) → PiecesAreTheObject object → (place : ℕ) → place < blob_count (length object) → length (get_or (pieces_of object) place []) ≡ blob_size (length object) place
piece_size object pieces place below =
    sym (lengths (pieces_of object) place (subst (λ (n : ℕ). place < n) (sym (count_of_pieces object)) below))
    ∙ ap (λ (ns : List ℕ). get_or ns place 0) pieces.sizes
    ∙ get_or-map-range_with_len (blob_size (length object)) 0 (blob_count (length object)) place place 0 below (omega arith)
  where
    lengths : (items : List (List ℕ)) (k : ℕ) → k < length items → get_or (map (λ (item : List ℕ). length item) items) k 0 ≡ length (get_or items k [])
    lengths [] k less = absurd (omega (arith, less))
    lengths (item ∷ items) zero less = refl
    lengths (item ∷ items) (suc k) less = lengths items k (omega arith)

-- a blob of an undisturbed object is available
available : (origin : Origin) (first : ℕ) (object : List ℕ) (t : World) (parts : List Part) (u : World) → IsKept t first object → IsUndisturbed origin first (blob_count (length object)) t parts u → (place : ℕ)
    → place < blob_count (length object) → IsAvailable origin (first + place) t parts u
available origin first object t parts u kept calm place below = record { acked = kept.acked place below; unasked = calm.unasked place below; heard = calm.heard place below; few_broken = calm.few_broken }

-- none of the other answers comes
fault_comes : (origin : Origin) (first place : ℕ) (object : List ℕ) (t : World) (parts before own : List Part) (u : World) (fault : GetFault) (reply : VolumeReply) → PiecesAreTheObject object
    → place < blob_count (length object) → parts ≡ before ++ own → AreBegunWith u first (pieces_of object) → IsUndisturbed origin first (blob_count (length object)) t parts u
    → Ok reply ≡ got_reply (Err fault) → GivesBlob u (first + place) (blob_size (length object) place) own (Err fault) → ⊥
fault_comes origin first place object t parts before own u (get_faults.Size kept) reply pieces below split begun calm given h =
    let one = begun_at u first (pieces_of object) place (subst (λ (n : ℕ). place < n) (sym (count_of_pieces object)) below) begun in
    h.other (h.whole ∙ ap (λ (xs : List ℕ). length xs) one.payload ∙ piece_size object pieces place below)
fault_comes origin first place object t parts before own u (get_faults.Moving versions) reply pieces below split begun calm given h =
    calm.still versions (record {
      count = h.count;
      order = h.order;
      shown = λ n i. let one = h.shown n i in
          record { view = one.view; there = subst (λ ps. IsIn (Part.Asking events.Look (volume_replies.Seen one.view)) ps) (sym split) (in_second _ before own one.there); same = one.same };
    })
fault_comes origin first place object t parts before own u get_faults.Fault reply pieces below split begun calm given h =
    let seen = calm.seen volume_replies.Fault (subst (λ ps. IsIn (Part.Asking events.Look volume_replies.Fault) ps) (sym split) (in_second _ before own h)) in
    let e : volume_replies.Fault ≡ volume_replies.Seen seen.0 = seen.1 in cc e
fault_comes origin first place object t parts before own u (get_faults.Spoiled at) reply pieces below split begun calm given h =
    let seen = calm.seen (volume_replies.Spoiled at) (subst (λ ps. IsIn (Part.Asking events.Look (volume_replies.Spoiled at)) ps) (sym split) (in_second _ before own h)) in
    let e : volume_replies.Spoiled at ≡ volume_replies.Seen seen.0 = seen.1 in cc e
fault_comes origin first place object t parts before own u get_faults.HistoryFull reply pieces below split begun calm given h = cc given
fault_comes origin first place object t parts before own u get_faults.Memory reply pieces below split begun calm given h = cc given
fault_comes origin first place object t parts before own u (get_faults.Short live unheard broken) reply pieces below split begun calm given h = h

-- the get of an undisturbed object
get_comes : ObjectsAreGot → ObjectsAreGotBack → (origin : Origin) (first : ℕ) (object : List ℕ) (answer : Result (List ℕ) GetFault) (t : World) (parts : List Part) (u : World) (reply : VolumeReply)
    → PiecesAreTheObject object → IsPossible origin t → IsKept t first object → PartsLead origin t parts u → IsUndisturbed origin first (blob_count (length object)) t parts u
    → ObjectGetsBy origin.mode first (blob_sizes (length object)) [] parts answer → Ok reply ≡ got_reply answer → got_reply answer ≡ Ok (replies.Got object)
get_comes got back origin first object (Ok bytes) t parts u reply pieces possible kept leads calm gets given =
    let there : IsObject u first (blob_count (length object)) bytes = got origin first (length object) (Ok bytes) parts t u possible gets leads (available origin first object t parts u kept calm) in
    ap (λ (xs : List ℕ). got_reply (Ok xs)) (back origin first object bytes parts t u kept.begun leads there)
get_comes got back origin first object (Err why) t parts u reply pieces possible kept leads calm gets given =
    let ends : EndsWithABlob u first (length object) parts why = got origin first (length object) (Err why) parts t u possible gets leads (available origin first object t parts u kept calm) in
    absurd (fault_comes origin first ends.place object t parts ends.before ends.own u why reply pieces ends.within ends.split (begun_stays t u first (pieces_of object) (parts_stay origin t parts u leads) kept.begun) calm given ends.gives)

pub put_objects_are_got : ((bytes : List ℕ) → PiecesAreTheObject bytes) → PutObjectsAreBegun → ObjectsAreGot → ObjectsAreGotBack → PutObjectsAreGot
put_objects_are_got pieces begun got back origin before put get first object reply w t u at i has command result calm =
    let by : GetTurn origin.mode first (length object) get.parts get.result = subst (λ (c : VolumeCommand). TurnBy origin.mode c get.parts get.result) command at.own.plays in
    let kept = kept_behind begun origin w t before put first object at.each i has at.led in
    let possible = possible_behind origin w (joined before) t at.possible (turns_parts origin w t before at.led) in
    by.given ∙ get_comes got back origin first object by.answer t get.parts u reply (pieces object) possible kept at.leads.leads calm by.gets (sym result ∙ by.given)
