-- What lasts of the stations of a volume over a call on one of them.
use Rattle.std.proofs.Common.{◌≡◌, ◌∙◌, sym, ap, refl, subst, ℕ, zero, suc, ◌<◌, ◌≤◌, true, ◌&&◌, List, [], ◌∷◌, length, inl, inr, get_or, set, arith}
use Rattle.std.proofs.lemmas.List.Sums.{sum_by-cons}
use Rattle.unit_id.specs.Lists.{IsIn}
use Rattle.disk_base.specs.Disk.{FileView}
use Rattle.disk_base.specs.Shelves.{ShelfView}
use Rattle.blob_node.specs.Station.{StationOver}
use Rattle.blob_node.specs.Station as single
use Rattle.volume_world.specs.Stations.{AreOn, AreStations, AllOutlast, faults_of}
use Rattle.volume_world.specs.Origins.{are_told, are_quiet}
use Rattle.volume_world.specs.Stepping.{AreStill}

module _ {H F : Type 0} (shelf_seen : H → ShelfView F) (seen : F → FileView) where
  -- all stations last where nothing is done
  pub all_last : (stations : List (StationOver H F)) → AllOutlast shelf_seen seen stations stations
  all_last [] = tt
  all_last (s ∷ ss) = (refl, refl, record { told = refl; still = refl; quiet = λ quiet. quiet; faults = omega arith }, all_last ss)

  -- all stations last where one is replaced by itself after a call
  pub set_lasts : (place : ℕ) (old : List (StationOver H F)) (was now : StationOver H F) → place < length old → was ≡ get_or old place was → now.vid ≡ was.vid
      → now.disk ≡ was.disk → single.Outlasts shelf_seen seen was now → AllOutlast shelf_seen seen old (set old place now)
  set_lasts place [] was now less at vid disk lasts = absurd (omega (arith, less))
  set_lasts zero (s ∷ ss) was now less at vid disk lasts =
      (vid ∙ ap (λ x. x.vid) at, disk ∙ ap (λ x. x.disk) at, subst (λ x. single.Outlasts shelf_seen seen x now) at lasts, all_last ss)
  set_lasts (suc place) (s ∷ ss) was now less at vid disk lasts = (
    refl,
    refl,
    record { told = refl; still = refl; quiet = λ quiet. quiet; faults = omega arith },
    set_lasts place ss was now (omega (arith, less)) at vid disk lasts,
  )

  -- ---- what follows of all

  lasting_on : (vid first : ℕ) (ones others : List (StationOver H F)) → AllOutlast shelf_seen seen ones others → AreOn vid first ones → AreOn vid first others
  lasting_on vid first [] [] lasts on = tt
  lasting_on vid first (s ∷ ss) (t ∷ ts) lasts on = (lasts.0 ∙ on.0, lasts.1 ∙ on.1, lasting_on vid (suc first) ss ts lasts.3 on.2)
  lasting_on vid first [] (t ∷ ts) lasts on = absurd lasts
  lasting_on vid first (s ∷ ss) [] lasts on = absurd lasts

  -- they are a volume's stations still
  pub lasting_are : (vid : ℕ) (ones others : List (StationOver H F)) → AllOutlast shelf_seen seen ones others → length others ≡ length ones → AreStations vid ones
      → AreStations vid others
  lasting_are vid ones others lasts long are = record { on = lasting_on vid 1 ones others lasts are.on; few = let few = are.few in omega (arith, few, long) }

  pub lasting_told : (ones others : List (StationOver H F)) → AllOutlast shelf_seen seen ones others → are_told shelf_seen seen others ≡ are_told shelf_seen seen ones
  lasting_told [] [] lasts = refl
  lasting_told (s ∷ ss) (t ∷ ts) lasts =
      ap (λ b. b && are_told shelf_seen seen ts) lasts.2.told ∙ ap (λ b. (shelf_seen s.shelf).is_told && b) (lasting_told ss ts lasts.3)
  lasting_told [] (t ∷ ts) lasts = absurd lasts
  lasting_told (s ∷ ss) [] lasts = absurd lasts

  pub lasting_quiet : (ones others : List (StationOver H F)) → AllOutlast shelf_seen seen ones others → are_quiet shelf_seen seen others ≡ are_quiet shelf_seen seen ones
  lasting_quiet [] [] lasts = refl
  lasting_quiet (s ∷ ss) (t ∷ ts) lasts =
      ap (λ b. b && are_quiet shelf_seen seen ts) lasts.2.still ∙ ap (λ b. (shelf_seen s.shelf).is_quiet && b) (lasting_quiet ss ts lasts.3)
  lasting_quiet [] (t ∷ ts) lasts = absurd lasts
  lasting_quiet (s ∷ ss) [] lasts = absurd lasts

  -- a quiet shelf's station has no call that fails
  abbrev IsStill : StationOver H F → Type 0
  IsStill station = (shelf_seen station.shelf).is_quiet ≡ true → single.IsQuiet shelf_seen seen station

  still_then : (one other : StationOver H F) → single.Outlasts shelf_seen seen one other → IsStill one → IsStill other
  still_then one other lasts still quiet = lasts.quiet (still (sym lasts.still ∙ quiet))

  pub lasting_still : (ones others : List (StationOver H F)) → AllOutlast shelf_seen seen ones others → AreStill shelf_seen seen ones → AreStill shelf_seen seen others
  lasting_still [] [] lasts still station there = absurd there
  lasting_still (s ∷ ss) (t ∷ ts) lasts still station there = elim there [
    | inl e ↦ subst IsStill (sym e) (still_then s t lasts.2 (still s (inl refl)))
    | inr later ↦ lasting_still ss ts lasts.3 (λ one at. still one (inr at)) station later
  ]
  lasting_still [] (t ∷ ts) lasts still station there = absurd lasts
  lasting_still (s ∷ ss) [] lasts still station there = absurd lasts

  -- .. and no failure is forgotten
  pub lasting_faults : (ones others : List (StationOver H F)) → AllOutlast shelf_seen seen ones others → faults_of shelf_seen seen ones ≤ faults_of shelf_seen seen others
  lasting_faults [] [] lasts = omega arith
  lasting_faults (s ∷ ss) (t ∷ ts) lasts =
      let one = sum_by-cons (single.faults_of shelf_seen seen) s ss in
      let other = sum_by-cons (single.faults_of shelf_seen seen) t ts in
      let here = lasts.2.faults in
      let rest = lasting_faults ss ts lasts.3 in
      omega (arith, one, other, here, rest)
  lasting_faults [] (t ∷ ts) lasts = absurd lasts
  lasting_faults (s ∷ ss) [] lasts = absurd lasts
