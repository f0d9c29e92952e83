-- What a world passes through when its clock goes on, more is planned for its messages, and a disk breaks.
use Rattle.std.proofs.Common.{◌≡◌, ◌∙◌, sym, ap, refl, subst, ℕ, suc, ◌+◌, ◌≤◌, min, true, ◌||◌, ◌&&◌, ◌==◌, inl, inr, List, [], ◌∷◌, ◌++◌, replicate, length, set, slice_set, ◌-◌, arith}
use Rattle.std.proofs.lemmas.List.{length-set}
use Rattle.std.specs.Prelude.{is_some}
use Rattle.disk_base.specs.Disk.{FileView}
use Rattle.disk_base.specs.Shelves.{ShelfView}
use Rattle.code_mode.specs.VolumeShape.{last_time}
use Rattle.blob_node.specs.Link.{fates_of, with_fates}
use Rattle.blob_node.specs.Station.{StationOver}
use Rattle.blob_node.specs.Station as single
use Rattle.blob_node.specs.declared.fate.Fate.{Fate}
use Rattle.volume_entry.specs.Manager.{IsDisk}
use Rattle.volume_entry.specs.TableParts.{shape_of}
use Rattle.volume_entry.specs.Entry.{EntryOver, is_broken}
use Rattle.volume_world.specs.Course.{IsDone}
use Rattle.volume_world.specs.History.{IsNoted}
use Rattle.volume_world.specs.Origins.{are_told, are_quiet, faults_of, origin_of}
use Rattle.volume_world.specs.Run.{World}
use Rattle.volume_world.specs.Trace.{trace_of}
use Rattle.volume_world.specs.Stations.{StationsOver, AreOn, AreStations, AreAlike, BreaksDown}
use Rattle.volume_world.specs.Stepping.{AreStill, IsShort, IsSound, IsAt, Done, NotDone}
use Rattle.volume_world.specs.World.{WorldOver}
use Rattle.volume_world.specs.declared.event.Event.TheVariants as events
use Rattle.volume_world.specs.declared.reply.Reply.TheVariants as replies
use Rattle.volume_world.proofs.ClockSteps.{ticked, planned, broke}
use Rattle.volume_world.proofs.Passing.{SameVolume, OnlyBeside, noted_length, still_short, no_fault, all_late_fit, end_in_time, passes_nothing, passes_beside, passes_asking, done_on, done_alone, not_done_alone}

-- ---- stations that are alike but for which are broken

alike_on : {H F : Type 0} (vid first : ℕ) (ones others : List (StationOver H F)) → AreAlike ones others → AreOn vid first ones → AreOn vid first others
alike_on vid first [] [] alike on = tt
alike_on vid first (s ∷ ss) (t ∷ ts) alike on =
    (ap (λ x. x.vid) alike.0 ∙ on.0, ap (λ x. x.disk) alike.0 ∙ on.1, alike_on vid (suc first) ss ts alike.1 on.2)
alike_on vid first [] (t ∷ ts) alike on = absurd alike
alike_on vid first (s ∷ ss) [] alike on = absurd alike

module _ {H F : Type 0} (shelf_seen : H → ShelfView F) (seen : F → FileView) where
  alike_told : (ones others : List (StationOver H F)) → AreAlike ones others → are_told shelf_seen seen others ≡ are_told shelf_seen seen ones
  alike_told [] [] alike = refl
  alike_told (s ∷ ss) (t ∷ ts) alike =
      ap (λ x. (shelf_seen x.shelf).is_told && are_told shelf_seen seen ts) alike.0 ∙ ap (λ b. (shelf_seen s.shelf).is_told && b) (alike_told ss ts alike.1)
  alike_told [] (t ∷ ts) alike = absurd alike
  alike_told (s ∷ ss) [] alike = absurd alike

  alike_quiet : (ones others : List (StationOver H F)) → AreAlike ones others → are_quiet shelf_seen seen others ≡ are_quiet shelf_seen seen ones
  alike_quiet [] [] alike = refl
  alike_quiet (s ∷ ss) (t ∷ ts) alike =
      ap (λ x. (shelf_seen x.shelf).is_quiet && are_quiet shelf_seen seen ts) alike.0 ∙ ap (λ b. (shelf_seen s.shelf).is_quiet && b) (alike_quiet ss ts alike.1)
  alike_quiet [] (t ∷ ts) alike = absurd alike
  alike_quiet (s ∷ ss) [] alike = absurd alike

  -- a station's calls don't fail, whether or not its disk is broken
  abbrev IsStill : StationOver H F → Type 0
  IsStill station = (shelf_seen station.shelf).is_quiet ≡ true → single.IsQuiet shelf_seen seen station

  still_alike : (one other : StationOver H F) → other ≡ record one { is_broken = other.is_broken } → IsStill one → IsStill other
  still_alike one other same still = subst IsStill (sym same) (λ quiet. let is = still quiet in record { shelf = is.shelf; files = is.files })

  alike_still : (ones others : List (StationOver H F)) → AreAlike ones others → AreStill shelf_seen seen ones → AreStill shelf_seen seen others
  alike_still [] [] alike still station there = absurd there
  alike_still (s ∷ ss) (t ∷ ts) alike still station there = elim there [
    | inl e ↦ subst IsStill (sym e) (still_alike s t alike.0 (still s (inl refl)))
    | inr later ↦ alike_still ss ts alike.1 (λ one at. still one (inr at)) station later
  ]
  alike_still [] (t ∷ ts) alike still station there = absurd alike
  alike_still (s ∷ ss) [] alike still station there = absurd there

  alike_are : (vid : ℕ) (ones others : List (StationOver H F)) → AreAlike ones others → length others ≡ length ones → AreStations vid ones → AreStations vid others
  alike_are vid ones others alike long are = record { on = alike_on vid 1 ones others alike are.on; few = let few = are.few in omega (arith, few, long) }

  -- ---- events

  module _ (old new : WorldOver H F) (sound : IsSound shelf_seen seen old) where
    -- the clock goes on
    pub tick_done : (by now : ℕ) → now ≡ min (old.time + by) last_time → now ≤ last_time
        → IsNoted (trace_of (events.Tick by) (replies.Now now)) old.history new.history
        → new ≡ record old { time = now; history = new.history } → Done shelf_seen seen 0 old new (events.Tick by) (replies.Now now)
    tick_done by now is last noted only =
        let beside : OnlyBeside shelf_seen seen old new = subst (OnlyBeside shelf_seen seen old) (sym only) refl in
        done_alone shelf_seen seen (events.Tick by) (replies.Now now) old new tt tt
        (passes_beside shelf_seen seen (events.Tick by) (replies.Now now) old new sound beside (ap (λ (x : WorldOver H F). length x.planned) only)
        (subst (λ (x : WorldOver H F). x.time ≤ last_time) (sym only) last) noted tt refl
        (λ w stands. ticked shelf_seen seen old new w stands by now is only))

    -- more is planned
    plan_done : (disk : ℕ) (fate : Fate) (count : ℕ) → IsDisk (shape_of old.shape) disk
        → IsNoted (trace_of (events.Plan disk fate count) replies.Done) old.history new.history
        → new ≡ record old { planned = with_fates old.planned disk (fates_of old.planned disk ++ replicate count fate); history = new.history }
        → Done shelf_seen seen 0 old new (events.Plan disk fate count) replies.Done
    plan_done disk fate count fits noted only =
        let beside : OnlyBeside shelf_seen seen old new = subst (OnlyBeside shelf_seen seen old) (sym only) refl in
        let long : length (slice_set old.planned (disk - 1) (fates_of old.planned disk ++ replicate count fate)) ≡ length old.planned =
        length-set old.planned (disk - 1) (fates_of old.planned disk ++ replicate count fate) in
        done_alone shelf_seen seen (events.Plan disk fate count) replies.Done old new tt tt
        (passes_beside shelf_seen seen (events.Plan disk fate count) replies.Done old new sound beside (ap (λ (x : WorldOver H F). length x.planned) only ∙ long)
        (subst (λ (x : WorldOver H F). x.time ≤ last_time) (sym only) sound.time) noted tt refl
        (λ w stands. planned shelf_seen seen old new w stands disk fate count sound.one fits only))

    -- .. so that these are the fates
    pub plan_done_to : (disk : ℕ) (fate : Fate) (count : ℕ) (fates : List (List Fate)) → IsDisk (shape_of old.shape) disk
        → fates ≡ with_fates old.planned disk (fates_of old.planned disk ++ replicate count fate)
        → IsNoted (trace_of (events.Plan disk fate count) replies.Done) old.history new.history
        → new ≡ record old { planned = fates; history = new.history } → Done shelf_seen seen 0 old new (events.Plan disk fate count) replies.Done
    plan_done_to disk fate count fates fits are noted only =
        plan_done disk fate count fits noted (only ∙ (λ i. record old { planned = are i; history = new.history }))

    -- nothing is done
    pub unchanged_not_done : new ≡ old → NotDone shelf_seen seen 0 old new
    unchanged_not_done same = subst (NotDone shelf_seen seen 0 old) (sym same) (not_done_alone shelf_seen seen old old
        (passes_nothing shelf_seen seen old old (record { vid = refl; shape = refl; first = refl; told = refl; quiet = refl; count = omega arith }) sound refl (omega arith) (λ w is. is)))

    -- a disk breaks
    module _ (disk : ℕ) (only : new ≡ record old { entry = record (old.entry) { broken = new.entry.broken }; stations = new.stations; history = new.history })
        (down : BreaksDown shelf_seen seen disk (record { vid = old.vid; stations = old.stations }) (record { vid = old.vid; stations = new.stations }))
        (flags : (other : ℕ) → is_broken new.entry.broken other ≡ ((other == disk) || is_broken old.entry.broken other)) where
      -- but for its history
      abbrev broken_world : WorldOver H F
      broken_world = record old { entry = record (old.entry) { broken = new.entry.broken }; stations = new.stations; history = new.history }

      broken_same : SameVolume shelf_seen seen old broken_world
      broken_same = record {
        vid = refl;
        shape = refl;
        first = refl;
        told = ap (λ b. b && is_some (seen old.entry.book.log.file).content) (alike_told old.stations new.stations down.alike);
        quiet = ap (λ b. b && (seen old.entry.book.log.file).is_quiet) (alike_quiet old.stations new.stations down.alike);
        count = let same = down.faults in omega (arith, same);
      }

      broken_sound : length new.entry.broken ≡ 65 → length old.history.entries ≤ length new.history.entries → IsSound shelf_seen seen broken_world
      broken_sound long more = record {
        one = record { vid = sound.one.vid; shape = sound.one.shape; planned = sound.one.planned };
        disks = sound.disks;
        stations = alike_are old.vid old.stations new.stations down.alike down.count sound.stations;
        count = down.count ∙ sound.count;
        still = alike_still old.stations new.stations down.alike sound.still;
        flags = long;
        broken = λ other. down.broken other ∙ ap (λ b. (other == disk) || b) (sound.broken other) ∙ sym (flags other);
        time = sound.time;
        end = end_in_time (length old.history.entries) (length new.history.entries) old.entry.book.log.end more sound.end;
        late = all_late_fit shelf_seen seen old broken_world broken_same refl sound;
      }

      broken_leads : (w : World) → length new.history.entries ≡ length old.history.entries + 1 → IsAt shelf_seen seen old w
          → (v : World) × IsDone (origin_of shelf_seen seen old) w (events.Break disk) replies.Done v × IsAt shelf_seen seen new v
      broken_leads w long is = done_on shelf_seen seen (events.Break disk) replies.Done old new w tt (broke shelf_seen seen old new w is.stands disk only flags down.stand)
          (subst (λ (x : WorldOver H F). IsShort (length new.history.entries) (seen x.entry.book.log.file)) (sym only)
          (still_short (length old.history.entries) (length new.history.entries) (seen old.entry.book.log.file) (omega (arith, long)) is.short))

      break_done : length new.entry.broken ≡ 65 → IsNoted (trace_of (events.Break disk) replies.Done) old.history new.history
          → Done shelf_seen seen 0 old new (events.Break disk) replies.Done
      break_done long noted =
          let more = noted_length (trace_of (events.Break disk) replies.Done) old.history new.history noted in
          let same = subst (SameVolume shelf_seen seen old) (sym only) broken_same in
          done_alone shelf_seen seen (events.Break disk) replies.Done old new tt tt
          (passes_asking shelf_seen seen (events.Break disk) replies.Done old new same (subst (IsSound shelf_seen seen) (sym only) (broken_sound long (omega (arith, more)))) noted
          (no_fault (events.Break disk) replies.Done (faults_of shelf_seen seen old) (faults_of shelf_seen seen new) refl same.count)
          (λ w is apart carries. broken_leads w more is))

    -- .. in the stations, and in the flags of the manager's part
    module _ (disk : ℕ) (stations : StationsOver H F) (entry : EntryOver F)
        (down : BreaksDown shelf_seen seen disk (record { vid = old.vid; stations = old.stations }) stations)
        (is : entry ≡ record (old.entry) { broken = set old.entry.broken disk true })
        (flags : (other : ℕ) → is_broken entry.broken other ≡ ((other == disk) || is_broken old.entry.broken other))
        (only : new ≡ record old { vid = stations.vid; stations = stations.stations; entry = entry; history = new.history }) where
      only_flags : new ≡ record old { entry = record (old.entry) { broken = new.entry.broken }; stations = new.stations; history = new.history }
      only_flags =
          let one : entry ≡ record (old.entry) { broken = entry.broken } = is ∙ (λ i. record (old.entry) { broken = ap (λ (e : EntryOver F). e.broken) (sym is) i }) in
          subst (λ (x : WorldOver H F). x ≡ record old { entry = record (old.entry) { broken = x.entry.broken }; stations = x.stations; history = x.history }) (sym only)
          (λ i. record old { vid = down.vid i; stations = stations.stations; entry = one i; history = new.history })

      down_there : BreaksDown shelf_seen seen disk (record { vid = old.vid; stations = old.stations }) (record { vid = old.vid; stations = new.stations })
      down_there = subst (BreaksDown shelf_seen seen disk (record { vid = old.vid; stations = old.stations }))
          (λ i. record { vid = down.vid i; stations = ap (λ (x : WorldOver H F). x.stations) (sym only) i }) down

      pub break_done_to : IsNoted (trace_of (events.Break disk) replies.Done) old.history new.history → Done shelf_seen seen 0 old new (events.Break disk) replies.Done
      break_done_to noted =
          let long : length (set old.entry.broken disk true) ≡ length old.entry.broken = length-set old.entry.broken disk true in
          break_done disk only_flags down_there (λ other. ap (λ (x : WorldOver H F). is_broken x.entry.broken other) only ∙ flags other)
          (ap (λ (x : WorldOver H F). length x.entry.broken) only ∙ ap (λ (e : EntryOver F). length e.broken) is ∙ long ∙ sound.flags) noted
