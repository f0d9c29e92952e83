-- Lemmas on the parts of a sweep.
use Rattle.std.proofs.Common.{◌≡◌, ℕ, zero, suc, ◌+◌, ◌<◌, ◌≤◌, Bool, true, false, cond, List, [], ◌∷◌, ◌++◌, length, drop, get_or, Option, Some, None, Result, Ok, Err, refl, sym, ◌∙◌, ap, subst, lit≤, arith}
use mir.Val.{bool_byte}
use Rattle.std.proofs.lemmas.List.{append-nil, drop_more, drop_all}
use Rattle.unit_id.specs.declared.homes.Home.{Home}
use Rattle.code_mode.proofs.Numbers.{sound_shapes}
use Rattle.volume_world.specs.declared.event.Event.{Event}
use Rattle.volume_world.specs.declared.reply.Reply.{Reply}
use Rattle.volume_world.specs.declared.reply.Reply.TheVariants as replies
use Rattle.volume_entry.specs.declared.view.LockView.{LockView}
use Rattle.volume_world.specs.declared.fault.StepFault.{StepFault}
use Rattle.volume_world.specs.declared.fault.StepFault.TheVariants as step_faults
use Rattle.volume_world.specs.Way.{Origin, WayView, IsWay, longest_history}
use Rattle.volume_world.specs.Asking.{IsUnitOn}
use Rattle.volume_world.specs.Replying.{AreHomesFrom, AreHomes}
use Rattle.volume_world.specs.declared.trace.Trace.{Trace}
use Rattle.volume_world.specs.Course.{Goes, IsFull, StepsBy}
use Rattle.volume_world.specs.Call.{Next}
use Rattle.volume_world.proofs.Comings.{step_proceeds, proceeds_on, comes_rest, comes_front}
use Rattle.blob_delete.specs.declared.sweeping.Swept.{Swept}
use Rattle.blob_delete.specs.declared.sweeping.Swept.TheVariants as swept
use Rattle.blob_delete.specs.declared.sweeping.Decided.{Decided}
use Rattle.blob_delete.specs.declared.sweeping.Decided.TheVariants as decided
use Rattle.blob_delete.specs.declared.fault.DeleteFault.{DeleteFault}
use Rattle.blob_delete.specs.declared.fault.DeleteFault.TheVariants as faults
use Rattle.blob_delete.specs.SweepCall.{SweepStage, SweepNext, sweep_asks, sweep_after, sweep_call, unbroken, marking, freeing, has_done, unless_failed, after_view, after_look, after_send, after_commit, after_mark, after_free}
use Rattle.blob_delete.specs.Sweeps.{Sweeps}
use Rattle.blob_delete.proofs.SweepClaims.{is_whole, is_front}
use Rattle.blob_delete.specs.SweepParts.{broken_off, told, Proceeding, IsOpen, SweepsOn, decided_on, AreUnits}

-- ---- parts of a sweep

-- the sweep is over because the history is full
abbrev pub is_cut : SweepNext → Bool
is_cut (Next.Over (Err faults.HistoryFull)) = true
is_cut next = false

-- no reply makes that of it
failure_uncut : (reply : Reply) → is_cut (unless_failed reply) ≡ false
failure_uncut replies.Fault = refl
failure_uncut (replies.Spoiled place) = refl
failure_uncut reply = refl

view_uncut : (held : Option LockView) (units : List Home) → is_cut (after_view held units) ≡ false
view_uncut (Some lock) units = refl
view_uncut None units = refl

look_uncut : (reply : Reply) → is_cut (after_look reply) ≡ false
look_uncut (replies.Seen view) = view_uncut view.held view.units
look_uncut reply = failure_uncut reply

send_uncut : (then : Bool → SweepNext) (reply : Reply) → ((done : Bool) → is_cut (then done) ≡ false) → is_cut (after_send then reply) ≡ false
send_uncut then (replies.Heard answer) each = each (has_done answer)
send_uncut then replies.Unheard each = each false
send_uncut then replies.Barred each = each false
send_uncut then reply each = failure_uncut reply

freeing_uncut : (total freed : ℕ) (homes : List Home) → is_cut (freeing total freed homes) ≡ false
freeing_uncut total freed [] = refl
freeing_uncut total freed (home ∷ homes) = refl

commit_uncut : (total : ℕ) (marked : List Home) (reply : Reply) → is_cut (after_commit total marked reply) ≡ false
commit_uncut total marked replies.Done = freeing_uncut total 0 marked
commit_uncut total marked replies.Already = freeing_uncut total 0 marked
commit_uncut total marked (replies.TooFewMarks have) = refl
commit_uncut total marked (replies.Locked task) = refl
commit_uncut total marked replies.NotAsked = refl
commit_uncut total marked reply = failure_uncut reply

never_cut : (stage : SweepStage) (reply : Reply) → is_cut (sweep_after stage reply) ≡ false
never_cut SweepStage.Looking reply = look_uncut reply
never_cut (SweepStage.Marking total marked home homes) reply = send_uncut (after_mark total marked home homes) reply (λ done. refl)
never_cut (SweepStage.Committing total marked) reply = commit_uncut total marked reply
never_cut (SweepStage.Freeing total freed home homes) reply = send_uncut (after_free total freed homes) reply (λ done. freeing_uncut total (cond done (freed + 1) freed) homes)

-- what a reply makes of a point, and what the answer of a part makes of it, are one
pub sweeps_told : {T : Type 0} (bid : ℕ) (old new : WayView) (from to : SweepNext) (result : Result T DeleteFault) (then : T → SweepNext) → is_cut to ≡ false → told result then ≡ to
    → Proceeding bid old new from to → SweepsOn bid old new from result then
sweeps_told bid old new from to (Err faults.HistoryFull) then uncut e h = absurd (let both : true ≡ false = ap is_cut e ∙ uncut in cc)
sweeps_told bid old new from to (Err faults.Memory) then uncut e h = record { to = to; still = subst IsOpen e tt; proceeds = h }
sweeps_told bid old new from to (Err other) then uncut e h = subst (λ next. Proceeding bid old new from next) (sym e) h
sweeps_told bid old new from to (Ok given) then uncut e h = subst (λ next. Proceeding bid old new from next) (sym e) h

-- by a step that is done
pub sweeps_replied : {T : Type 0} (bid : ℕ) (old new : WayView) (stage : SweepStage) (event : Event) (reply : Reply) (result : Result T DeleteFault) (then : T → SweepNext) → event ≡ sweep_asks bid stage
    → StepsBy old new event (Ok reply) → told result then ≡ sweep_after stage reply → SweepsOn bid old new (Next.Go stage) result then
sweeps_replied bid old new stage event reply result then asked h e =
    sweeps_told bid old new (Next.Go stage) (sweep_after stage reply) result then (never_cut stage reply) e (step_proceeds (sweep_call bid) old new stage event (Ok reply) asked h)

-- the history is full behind the entries of others
full_there : (old new : WayView) → IsFull old new → longest_history ≤ length new.entries
full_there old new h = subst (λ (entries : List Trace). longest_history ≤ length entries) (sym h.goes.entries) h.full

-- by a step that isn't done
pub sweeps_stopped : {T : Type 0} (bid : ℕ) (old new : WayView) (stage : SweepStage) (event : Event) (fault : StepFault) (given : DeleteFault) (then : T → SweepNext) → event ≡ sweep_asks bid stage
    → StepsBy old new event (Err fault) → given ≡ broken_off fault → SweepsOn {T = T} bid old new (Next.Go stage) (Err given) then
sweeps_stopped {T} bid old new stage event step_faults.HistoryFull given then asked h e =
    subst (λ f. SweepsOn {T = T} bid old new (Next.Go stage) (Err f) then) (sym e)
    (record { come = record { to = Next.Go stage; still = tt; proceeds = step_proceeds (sweep_call bid) old new stage event (Err step_faults.HistoryFull) asked h }; full = full_there old new h })
sweeps_stopped {T} bid old new stage event step_faults.Memory given then asked h e =
    subst (λ f. SweepsOn {T = T} bid old new (Next.Go stage) (Err f) then) (sym e)
    (record { to = Next.Go stage; still = tt; proceeds = step_proceeds (sweep_call bid) old new stage event (Err step_faults.Memory) asked h })

-- one part behind the other
pub sweeps_on : {T : Type 0} (bid : ℕ) (a b c : WayView) (from at : SweepNext) (result : Result T DeleteFault) (then : T → SweepNext) → Proceeding bid a b from at
    → SweepsOn bid b c at result then → SweepsOn bid a c from result then
sweeps_on bid a b c from at (Err faults.HistoryFull) then h k =
    record { come = record { to = k.come.to; still = k.come.still; proceeds = proceeds_on (sweep_call bid) a b c from at k.come.to h k.come.proceeds }; full = k.full }
sweeps_on bid a b c from at (Err faults.Memory) then h k = record { to = k.to; still = k.still; proceeds = proceeds_on (sweep_call bid) a b c from at k.to h k.proceeds }
sweeps_on bid a b c from at (Err fault) then h k = proceeds_on (sweep_call bid) a b c from at (Next.Over (Err fault)) h k
sweeps_on bid a b c from at (Ok given) then h k = proceeds_on (sweep_call bid) a b c from at (then given) h k

-- a part that fails ends the whole
pub sweeps_failed : {T U : Type 0} (bid : ℕ) (old new : WayView) (from : SweepNext) (fault : DeleteFault) (then : T → SweepNext) (after : U → SweepNext)
    → SweepsOn {T = T} bid old new from (Err fault) then → SweepsOn {T = U} bid old new from (Err fault) after
sweeps_failed bid old new from faults.HistoryFull then after h = h
sweeps_failed bid old new from faults.Memory then after h = h
sweeps_failed bid old new from other then after h = h

-- a part that succeeds comes to the point that its answer tells
pub sweeps_done : {T : Type 0} (bid : ℕ) (old new : WayView) (from : SweepNext) (given : T) (then : T → SweepNext) → SweepsOn bid old new from (Ok given) then
    → Proceeding bid old new from (then given)
sweeps_done bid old new from given then h = h

-- a whole sweep
pub sweeps_whole : (old new : WayView) (bid : ℕ) (result : Result Swept DeleteFault) → IsWay new → SweepsOn bid old new (Next.Go SweepStage.Looking) result (λ swept. Next.Over (Ok swept))
    → Sweeps old new bid result
sweeps_whole old new bid (Err faults.HistoryFull) its h =
    is_front old new bid faults.HistoryFull h.come.to h.come.still h.come.proceeds (comes_front (sweep_call bid) (Next.Go SweepStage.Looking) h.come.proceeds.parts h.come.to h.come.proceeds.comes) (λ e. h.full)
sweeps_whole old new bid (Err faults.Memory) its h =
    is_front old new bid faults.Memory h.to h.still h.proceeds (comes_front (sweep_call bid) (Next.Go SweepStage.Looking) h.proceeds.parts h.to h.proceeds.comes) (λ e. absurd (cc e))
sweeps_whole old new bid (Err fault) its h = is_whole old new bid (Err fault) its h (comes_rest (sweep_call bid) (Next.Go SweepStage.Looking) h.parts (Err fault) h.comes) (λ e. absurd (cc e))
sweeps_whole old new bid (Ok given) its h = is_whole old new bid (Ok given) its h (comes_rest (sweep_call bid) (Next.Go SweepStage.Looking) h.parts (Ok given) h.comes) (λ e. absurd (cc e))

-- ---- no step at all

goes_nowhere : (a : WayView) → Goes a a []
goes_nowhere a = record {
  origin = refl;
  is_alone = refl;
  entries = sym (append-nil a.entries);
  own = sym (append-nil a.own);
  alone = λ e part i. absurd i;
  count = omega arith;
  faults = omega arith;
  quiet = λ e. refl;
  leads = λ told w at. (w, refl, at);
}

pub proceeds_nowhere : (bid : ℕ) (a : WayView) (from : SweepNext) → Proceeding bid a a from from
proceeds_nowhere bid a from = record { parts = []; goes = goes_nowhere a; comes = refl; fits = tt }

-- ---- units

-- a unit in a list of the volume's
pub home_there : (origin : Origin) (first : ℕ) (homes : List Home) (i : ℕ) (d : Home) → AreHomesFrom origin first homes → i < length homes → IsUnitOn origin (get_or homes i d).unit (get_or homes i d).disk
home_there origin first [] i d h below = absurd (omega arith)
home_there origin first (home ∷ homes) zero d h below = h.0
home_there origin first (home ∷ homes) (suc i) d h below = home_there origin (suc first) homes i d h.2 (omega arith)

pub unit_there : (origin : Origin) (homes : List Home) (i : ℕ) (d : Home) → AreUnits origin homes → i < length homes → IsUnitOn origin (get_or homes i d).unit (get_or homes i d).disk
unit_there origin [] i d h below = absurd (omega arith)
unit_there origin (home ∷ homes) zero d h below = h.0
unit_there origin (home ∷ homes) (suc i) d h below = unit_there origin homes i d h.1 (omega arith)

pub units_more : (origin : Origin) (homes : List Home) (home : Home) → AreUnits origin homes → IsUnitOn origin home.unit home.disk → AreUnits origin (homes ++ home ∷ [])
units_more origin [] home h k = (k, tt)
units_more origin (first ∷ homes) home h k = (h.0, units_more origin homes home h.1 k)

pub units_kept : (origin : Origin) (homes : List Home) (home : Home) (done : Bool) → AreUnits origin homes → IsUnitOn origin home.unit home.disk → AreUnits origin (cond done (homes ++ home ∷ []) homes)
units_kept origin homes home true h k = units_more origin homes home h k
units_kept origin homes home false h k = h

pub unbroken_first : (home : Home) (left : List Home) → home.broken ≡ false → unbroken (home ∷ left) ≡ home ∷ unbroken left
unbroken_first home left e = rw e refl

pub unbroken_not : (home : Home) (left : List Home) → home.broken ≡ true → unbroken (home ∷ left) ≡ unbroken left
unbroken_not home left e = rw e refl

-- ---- the origin

pub sweeps_origin : {T : Type 0} (bid : ℕ) (old new : WayView) (from : SweepNext) (result : Result T DeleteFault) (then : T → SweepNext) → SweepsOn bid old new from result then → new.origin ≡ old.origin
sweeps_origin bid old new from (Err faults.HistoryFull) then h = h.come.proceeds.goes.origin
sweeps_origin bid old new from (Err faults.Memory) then h = h.proceeds.goes.origin
sweeps_origin bid old new from (Err other) then h = h.goes.origin
sweeps_origin bid old new from (Ok given) then h = h.goes.origin

-- ---- loops

-- a sweep that marks some of the units, from their first one on, and these were heard to have the mark
pub record IsMarking (bid : ℕ) (old new : WayView) (units marked left : List Home) : Type 0 where
  pub goes : (total : ℕ) → Proceeding bid old new (Next.Go (marking total [] (unbroken units))) (Next.Go (marking total marked (unbroken left)))

pub marking_first : (bid : ℕ) (a : WayView) (units : List Home) → IsMarking bid a a units [] units
marking_first bid a units = record { goes = λ total. proceeds_nowhere bid a (Next.Go (marking total [] (unbroken units))) }

-- a sweep that has some of the marked units free the blob, from their first one on, and so many were heard to have done so
pub record IsFreeing (bid : ℕ) (old new : WayView) (marked : List Home) (freed : ℕ) (left : List Home) : Type 0 where
  pub goes : (total : ℕ) → Proceeding bid old new (freeing total 0 marked) (freeing total freed left)

pub freeing_first : (bid : ℕ) (a : WayView) (marked : List Home) → IsFreeing bid a a marked 0 marked
freeing_first bid a marked = record { goes = λ total. proceeds_nowhere bid a (freeing total 0 marked) }

-- ---- one unit

-- a unit on a broken disk is passed by
pub sweeps_passed_by : (bid : ℕ) (a : WayView) (total : ℕ) (marked left : List Home) (home : Home) → home.broken ≡ true
    → Proceeding bid a a (Next.Go (marking total marked (unbroken (home ∷ left)))) (Next.Go (marking total marked (unbroken left)))
sweeps_passed_by bid a total marked left home e =
    subst (λ (homes : List Home). Proceeding bid a a (Next.Go (marking total marked homes)) (Next.Go (marking total marked (unbroken left)))) (sym (unbroken_not home left e))
    (proceeds_nowhere bid a (Next.Go (marking total marked (unbroken left))))

pub unit_failed : (bid : ℕ) (old new : WayView) (total : ℕ) (marked left : List Home) (home : Home) (fault : DeleteFault) (result : Result (Unit {0}) DeleteFault) (then : Unit {0} → SweepNext) → home.broken ≡ false
    → SweepsOn {T = Bool} bid old new (Next.Go (SweepStage.Marking total marked home (unbroken left))) (Err fault) (after_mark total marked home (unbroken left)) → result ≡ Err fault
    → SweepsOn {T = Unit {0}} bid old new (Next.Go (marking total marked (unbroken (home ∷ left)))) result then
unit_failed bid old new total marked left home fault result then e h is =
    let from = Next.Go (SweepStage.Marking total marked home (unbroken left)) in
    let failed = sweeps_failed {T = Bool} {U = Unit {0}} bid old new from fault (after_mark total marked home (unbroken left)) then h in
    subst (λ (r : Result (Unit {0}) DeleteFault). SweepsOn {T = Unit {0}} bid old new (Next.Go (marking total marked (unbroken (home ∷ left)))) r then) (sym is)
    (subst (λ (homes : List Home). SweepsOn {T = Unit {0}} bid old new (Next.Go (marking total marked homes)) (Err fault) then) (sym (unbroken_first home left e)) failed)

pub unit_marked : (bid : ℕ) (old new : WayView) (total : ℕ) (marked more left : List Home) (home : Home) (done : Bool) → home.broken ≡ false → more ≡ cond done (marked ++ home ∷ []) marked
    → Proceeding bid old new (Next.Go (SweepStage.Marking total marked home (unbroken left))) (after_mark total marked home (unbroken left) done)
    → Proceeding bid old new (Next.Go (marking total marked (unbroken (home ∷ left)))) (Next.Go (marking total more (unbroken left)))
unit_marked bid old new total marked more left home done e is h =
    subst (λ (homes : List Home). Proceeding bid old new (Next.Go (marking total marked homes)) (Next.Go (marking total more (unbroken left)))) (sym (unbroken_first home left e))
    (subst (λ (homes : List Home). Proceeding bid old new (Next.Go (SweepStage.Marking total marked home (unbroken left))) (Next.Go (marking total homes (unbroken left)))) (sym is) h)

-- ---- the unit at hand

pub item_there : (origin : Origin) (homes : List Home) (i : ℕ) (home : Home) → AreHomes origin homes → i < length homes → home ≡ get_or homes i home → IsUnitOn origin home.unit home.disk
item_there origin homes i home all below is = subst (λ (x : Home). IsUnitOn origin x.unit x.disk) (sym is) (home_there origin 0 homes i home all.each below)

pub marked_there : (origin : Origin) (homes : List Home) (i : ℕ) (home : Home) → AreUnits origin homes → i < length homes → home ≡ get_or homes i home → IsUnitOn origin home.unit home.disk
marked_there origin homes i home all below is = subst (λ (x : Home). IsUnitOn origin x.unit x.disk) (sym is) (unit_there origin homes i home all below)

pub next_left : (homes : List Home) (i : ℕ) (home : Home) → i < length homes → home ≡ get_or homes i home → drop i homes ≡ home ∷ drop (i + 1) homes
next_left homes i home below is = drop_more homes i home below ∙ ap (λ x. x ∷ drop (i + 1) homes) (sym is)

pub few_homes : (origin : Origin) (homes : List Home) → AreHomes origin homes → length homes ≤ 27
few_homes origin homes all = let few = (sound_shapes origin.mode origin.disks).few_units in let count = all.count in omega arith

-- what is marked at one unit
abbrev pub MarksOne : ℕ → WayView → WayView → List Home → List Home → Home → Result (Unit {0}) DeleteFault → Type 0
MarksOne bid old new marked more home result =
    (total : ℕ) (left : List Home) → SweepsOn bid old new (Next.Go (marking total marked (unbroken (home ∷ left)))) result (λ _. Next.Go (marking total more (unbroken left)))

pub marking_part : (bid : ℕ) (a b c : WayView) (units marked more : List Home) (i : ℕ) (home : Home) (result : Result (Unit {0}) DeleteFault) → i < length units → home ≡ get_or units i home
    → IsMarking bid a b units marked (drop i units) → MarksOne bid b c marked more home result → (total : ℕ)
    → SweepsOn bid a c (Next.Go (marking total [] (unbroken units))) result (λ _. Next.Go (marking total more (unbroken (drop (i + 1) units))))
marking_part bid a b c units marked more i home result below is h k total =
    let left = drop (i + 1) units in
    let from = Next.Go (marking total [] (unbroken units)) in
    let before = subst (λ (xs : List Home). Proceeding bid a b from (Next.Go (marking total marked (unbroken xs)))) (next_left units i home below is) (h.goes total) in
    sweeps_on {T = Unit {0}} bid a b c from (Next.Go (marking total marked (unbroken (home ∷ left)))) result (λ _. Next.Go (marking total more (unbroken left))) before (k total left)

-- a sweep that has marked at all units
pub marking_done : (bid : ℕ) (a b : WayView) (units marked : List Home) (i : ℕ) → length units ≤ i → IsMarking bid a b units marked (drop i units) → (total : ℕ)
    → Proceeding bid a b (Next.Go (marking total [] (unbroken units))) (Next.Go (SweepStage.Committing total marked))
marking_done bid a b units marked i over h total =
    subst (λ (left : List Home). Proceeding bid a b (Next.Go (marking total [] (unbroken units))) (Next.Go (marking total marked (unbroken left)))) (drop_all i units over) (h.goes total)

-- what one unit is asked to free
abbrev pub FreesOne : ℕ → WayView → WayView → Home → Result Bool DeleteFault → Type 0
FreesOne bid old new home result = (total freed : ℕ) (left : List Home) → SweepsOn bid old new (Next.Go (SweepStage.Freeing total freed home left)) result (after_free total freed left)

pub freeing_part : (bid : ℕ) (a b c : WayView) (marked : List Home) (freed i : ℕ) (home : Home) (result : Result Bool DeleteFault) → i < length marked → home ≡ get_or marked i home
    → IsFreeing bid a b marked freed (drop i marked) → FreesOne bid b c home result → (total : ℕ) → SweepsOn bid a c (freeing total 0 marked) result (after_free total freed (drop (i + 1) marked))
freeing_part bid a b c marked freed i home result below is h k total =
    let left = drop (i + 1) marked in
    let before = subst (λ (xs : List Home). Proceeding bid a b (freeing total 0 marked) (freeing total freed xs)) (next_left marked i home below is) (h.goes total) in
    sweeps_on {T = Bool} bid a b c (freeing total 0 marked) (Next.Go (SweepStage.Freeing total freed home left)) result (after_free total freed left) before (k total freed left)

pub freeing_done : (bid : ℕ) (a b : WayView) (marked : List Home) (freed i : ℕ) → length marked ≤ i → IsFreeing bid a b marked freed (drop i marked) → (total : ℕ)
    → Proceeding bid a b (freeing total 0 marked) (freeing total freed [])
freeing_done bid a b marked freed i over h total = subst (λ (left : List Home). Proceeding bid a b (freeing total 0 marked) (freeing total freed left)) (drop_all i marked over) (h.goes total)

-- a unit that was freed counts as one
counted : (n : ℕ) (done : Bool) → cond done (n + 1) n ≡ n + bool_byte done
counted n true = refl
counted n false = omega arith

pub at_most_one : (done : Bool) → bool_byte done ≤ 1
at_most_one true = lit≤ tt
at_most_one false = lit≤ tt

pub freeing_counted : (bid : ℕ) (a b : WayView) (marked : List Home) (freed : ℕ) (left : List Home) (done : Bool)
    → ((total : ℕ) → Proceeding bid a b (freeing total 0 marked) (after_free total freed left done)) → IsFreeing bid a b marked (freed + bool_byte done) left
freeing_counted bid a b marked freed left done h = record { goes = λ total. subst (λ (n : ℕ). Proceeding bid a b (freeing total 0 marked) (freeing total n left)) (counted freed done) (h total) }

-- ---- whole sweeps

-- what a sweep asks from its beginning on, and what it comes to
abbrev IsSwept : ℕ → WayView → WayView → Result Swept DeleteFault → Type 0
IsSwept bid old new result = SweepsOn bid old new (Next.Go SweepStage.Looking) result (λ swept. Next.Over (Ok swept))

-- a part that fails, behind what went before, ends the sweep
pub sweep_fails : {T : Type 0} (old new : WayView) (bid : ℕ) (result : Result Swept DeleteFault) (fault : DeleteFault) (then : T → SweepNext) → result ≡ Err fault
    → SweepsOn {T = T} bid old new (Next.Go SweepStage.Looking) (Err fault) then → IsSwept bid old new result
sweep_fails {T} old new bid result fault then e h =
    subst (λ r. IsSwept bid old new r) (sym e)
    (sweeps_failed {T = T} {U = Swept} bid old new (Next.Go SweepStage.Looking) fault then (λ swept. Next.Over (Ok swept)) h)

-- once the look has shown these units
abbrev pub shown : List Home → SweepNext
shown units = Next.Go (marking (length units) [] (unbroken units))

-- from the beginning to the marks of all units
pub marked_so_far : (bid : ℕ) (a b d : WayView) (units marked : List Home) → Proceeding bid a b (Next.Go SweepStage.Looking) (shown units)
    → Proceeding bid b d (shown units) (Next.Go (SweepStage.Committing (length units) marked))
    → Proceeding bid a d (Next.Go SweepStage.Looking) (Next.Go (SweepStage.Committing (length units) marked))
marked_so_far bid a b d units marked h k = proceeds_on (sweep_call bid) a b d (Next.Go SweepStage.Looking) (shown units) (Next.Go (SweepStage.Committing (length units) marked)) h k

-- .. to the commit
pub committed_so_far : (bid : ℕ) (a d e : WayView) (total : ℕ) (marked : List Home) (made : Decided) → made ≡ decided.Committed
    → Proceeding bid a d (Next.Go SweepStage.Looking) (Next.Go (SweepStage.Committing total marked))
    → Proceeding bid d e (Next.Go (SweepStage.Committing total marked)) (decided_on total marked made)
    → Proceeding bid a e (Next.Go SweepStage.Looking) (freeing total 0 marked)
committed_so_far bid a d e total marked made is h k =
    let at = Next.Go (SweepStage.Committing total marked) in
    proceeds_on (sweep_call bid) a d e (Next.Go SweepStage.Looking) at (freeing total 0 marked) h (subst (λ (m : Decided). Proceeding bid d e at (decided_on total marked m)) is k)

-- .. to too few marks
pub sweeps_waiting : (bid : ℕ) (a d e : WayView) (total marks : ℕ) (marked : List Home) (made : Decided) → made ≡ decided.Waits marks
    → Proceeding bid a d (Next.Go SweepStage.Looking) (Next.Go (SweepStage.Committing total marked))
    → Proceeding bid d e (Next.Go (SweepStage.Committing total marked)) (decided_on total marked made) → IsSwept bid a e (Ok (swept.Waits marks))
sweeps_waiting bid a d e total marks marked made is h k =
    let at = Next.Go (SweepStage.Committing total marked) in
    (proceeds_on (sweep_call bid) a d e (Next.Go SweepStage.Looking) at (Next.Over (Ok (swept.Waits marks))) h (subst (λ (m : Decided). Proceeding bid d e at (decided_on total marked m)) is k))

-- .. to the end
pub sweeps_over : (bid : ℕ) (a f : WayView) (total freed count : ℕ) (outcome : Swept) → count ≡ total → Next.Over (Ok outcome) ≡ freeing count freed []
    → Proceeding bid a f (Next.Go SweepStage.Looking) (freeing total freed []) → IsSwept bid a f (Ok outcome)
sweeps_over bid a f total freed count outcome same is h =
    let given : Next.Over (Ok outcome) ≡ freeing total freed [] = is ∙ ap (λ (n : ℕ). freeing n freed []) same in
    subst (λ (to : SweepNext). Proceeding bid a f (Next.Go SweepStage.Looking) to) (sym given) h
