-- A volume is made over shelves that are taken from a farm, or all of them go back.
use Rattle.std.proofs.Common.{◌≡◌, ◌∙◌, sym, ap, refl, subst, ℕ, zero, suc, ◌+◌, ◌-◌, ◌<◌, ◌≤◌, ◌^◌, ◌&&◌, min, Bool, true, false, List, [], ◌∷◌, length, Option, Some, None, is_some, IsSome, Result, Err, arith}
use Rattle.unit_id.specs.declared.homes.Home.{Home}
use Rattle.disk_base.specs.Disk.{FileView}
use Rattle.disk_base.specs.Shelves.{ShelfView}
use Rattle.disk_base.specs.Farms.{FarmView}
use Rattle.code_mode.specs.declared.mode.Mode.{Mode}
use Rattle.blob_node.specs.Station.{StationOver}
use Rattle.volume_entry.specs.Manager.{AreFirstHomes}
use Rattle.volume_entry.specs.TableParts.{shape_of}
use Rattle.volume_world.specs.Stations.{AreOn, AllOutlast}
use Rattle.volume_world.specs.Stations as all
use Rattle.volume_world.specs.World.{WorldOver}
use Rattle.volume_world.specs.Origins.{are_told, made_with}
use Rattle.volume_world.specs.Told.{MayRun}
use Rattle.volume_world.specs.WorldWay.{IsLedTo}
use Rattle.volume_world.specs.WorldMaking.{CanMake as CanMakeWorld, CountsRefusal, HandsBack, IsMadeOf, RefusedOver, locations}
use Rattle.volume_world.specs.declared.world_fault.WorldFault.{WorldFault}
use Rattle.volume_world.specs.declared.world_fault.WorldFault.TheVariants as faults
use Rattle.farm_volume.specs.Lending.{AreBack, AreOut, IsBeside, OthersStay, Returns, ReturnsLog}
use Rattle.farm_volume.specs.FarmVolume.{VolumeOver}
use Rattle.farm_volume.specs.Making.{AreFresh, AreLent, AreRefused, CanMake, IsFresh, IsLogOut, IsLogRefused, IsMade, Makes}
use Rattle.farm_volume.proofs.Lent.{counts_then}
use Rattle.farm_volume.proofs.WholeVolumes.{all_back, others_stay}

-- a fault of something new that goes back is one of the farm's
counts_back : (fault : WorldFault) (failed old new : ℕ) → CountsRefusal 0 failed fault → min (old + failed) (2 ^ 64 - 1) ≤ new → old ≤ new → CountsRefusal old new fault
counts_back faults.Fault failed old new counts more never = omega (arith, counts, more, never)
counts_back (faults.Damaged kept computed) failed old new counts more never = never
counts_back (faults.Spoiled place) failed old new counts more never = never
counts_back faults.Memory failed old new counts more never = never

module _ {S F : Type 0} (shelf_seen : S → ShelfView F) (seen : F → FileView) where
  pub outlast_on : (vid first : ℕ) (ones others : List (StationOver S F)) → AllOutlast shelf_seen seen ones others → AreOn vid first ones → AreOn vid first others
  outlast_on vid first [] [] lasts on = tt
  outlast_on vid first [] (other ∷ others) lasts on = absurd lasts
  outlast_on vid first (one ∷ ones) [] lasts on = absurd lasts
  outlast_on vid first (one ∷ ones) (other ∷ others) lasts on = (lasts.0 ∙ on.0, lasts.1 ∙ on.1, outlast_on vid (suc first) ones others lasts.3 on.2)

  pub outlast_length : (ones others : List (StationOver S F)) → AllOutlast shelf_seen seen ones others → length others ≡ length ones
  outlast_length [] [] lasts = refl
  outlast_length [] (other ∷ others) lasts = absurd lasts
  outlast_length (one ∷ ones) [] lasts = absurd lasts
  outlast_length (one ∷ ones) (other ∷ others) lasts = ap suc (outlast_length ones others lasts.3)

  both_told : (x y a b : Bool) → a ≡ x → (x && y) ≡ true → (y ≡ true → b ≡ true) → (a && b) ≡ true
  both_told true y a b is told rest = subst (λ (z : Bool). (z && b) ≡ true) (sym is) (rest told)
  both_told false y a b is told rest = absurd (cc told)

  outlast_told : (ones others : List (StationOver S F)) → AllOutlast shelf_seen seen ones others → are_told shelf_seen seen ones ≡ true → are_told shelf_seen seen others ≡ true
  outlast_told [] [] lasts told = told
  outlast_told [] (other ∷ others) lasts told = absurd lasts
  outlast_told (one ∷ ones) [] lasts told = absurd lasts
  outlast_told (one ∷ ones) (other ∷ others) lasts told =
      both_told (shelf_seen one.shelf).is_told (are_told shelf_seen seen ones) (shelf_seen other.shelf).is_told (are_told shelf_seen seen others) lasts.2.told told (outlast_told ones others lasts.3)

  module _ (vid : ℕ) (mode : Mode) (disks : ℕ) (homes : List Home) (old : FarmView S) (can : CanMake shelf_seen vid mode disks homes old) where
    -- ---- no log

    back_but_first : (new : FarmView S) (why : WorldFault) → IsLogRefused shelf_seen vid old new why → (d : ℕ) → d < disks + 1 → new.is_out d vid ≡ false
    back_but_first new why is zero below = is.back
    back_but_first new why is (suc d) below = is.others.out (suc d) vid (λ same v. omega (arith, same)) ∙ can.back (suc d) (omega arith) (omega (arith, below))

    aside : (d v : ℕ) → IsBeside vid 0 (disks + 1) d v → d ≡ 0 → v ≡ vid → ⊥
    aside d v beside same number = beside (omega arith) (omega (arith, same)) number

    pub no_log : (new : FarmView S) (fault : WorldFault) → IsLogRefused shelf_seen vid old new fault → AreRefused vid 0 (disks + 1) old new fault
    no_log new fault is = record {
      back = λ d from below. back_but_first new fault is d (omega (arith, below));
      others = record {
        out = λ d v beside. is.others.out d v (aside d v beside);
        places = λ d v beside. is.others.places d v (aside d v beside);
      };
      counts = is.counts;
      told = is.told;
      plain = λ told. is.plain told (can.fresh 0 (omega arith) (omega arith));
    }

    pub no_log_told : (new : FarmView S) (fault : WorldFault) → IsLogRefused shelf_seen vid old new fault → (result : Result (VolumeOver S F) WorldFault) → result ≡ Err fault → Makes shelf_seen seen vid mode disks homes old new result
    no_log_told new fault is result told = subst (Makes shelf_seen seen vid mode disks homes old new) (sym told) (no_log new fault is)

    -- ---- with a log

    module _ (manager : S) (file : F) (lent : FarmView S) (log : IsLogOut shelf_seen seen vid manager file old lent) where
      pub back_behind_log : AreBack vid 1 disks lent
      back_behind_log d from below = log.one.others.out d vid (λ same v. omega (arith, same, from)) ∙ can.back d (omega arith) (omega (arith, below))

      pub fresh_behind_log : AreFresh shelf_seen vid 1 disks lent
      fresh_behind_log d from below =
          subst (IsFresh shelf_seen) (sym (log.one.others.places d vid (λ same v. omega (arith, same, from)))) (can.fresh d (omega arith) (omega (arith, below)))

      behind : (d v : ℕ) → IsBeside vid 0 (disks + 1) d v → IsBeside vid 1 disks d v
      behind d v beside from below number = beside (omega arith) (omega (arith, below)) number

      -- the shelves of the disks don't go out
      module _ (mid new : FarmView S) (fault : WorldFault) (refused : AreRefused vid 1 disks lent mid fault) where
        pub log_still_out : mid.is_out 0 vid ≡ true
        log_still_out = refused.others.out 0 vid (λ from below same. omega (arith, from)) ∙ log.one.out

        module _ (returned : ReturnsLog shelf_seen seen vid manager file mid new) where
          back_all : (d : ℕ) → d < disks + 1 → new.is_out d vid ≡ false
          back_all zero below = returned.takes.out
          back_all (suc d) below = returned.takes.others.out (suc d) vid (λ same v. omega (arith, same)) ∙ refused.back (suc d) (omega arith) (omega (arith, below))

          pub no_stations : AreRefused vid 0 (disks + 1) old new fault
          no_stations = record {
            back = λ d from below. back_all d (omega (arith, below));
            others = record {
              out = λ d v beside. returned.takes.others.out d v (aside d v beside) ∙ refused.others.out d v (behind d v beside) ∙ log.one.others.out d v (aside d v beside);
              places = λ d v beside. returned.takes.others.places d v (aside d v beside) ∙ refused.others.places d v (behind d v beside) ∙ log.one.others.places d v (aside d v beside);
            };
            counts = subst (λ (n : ℕ). CountsRefusal n new.faults fault) log.one.faults (counts_then fault lent.faults mid.faults new.faults refused.counts returned.takes.never_falls);
            told = returned.takes.told ∙ refused.told ∙ log.one.told;
            plain = λ told. refused.plain (log.one.told ∙ told);
          }

      -- all are out
      module _ (stations : List (StationOver S F)) (now : FarmView S) (count : length stations ≡ disks) (out : AreLent shelf_seen seen vid stations lent now) where
        pub can_make : CanMakeWorld shelf_seen seen vid mode stations file homes
        can_make = record {
          are = record { on = out.on; few = let few = can.few in omega (arith, few, count) };
          few = let few = can.few in omega (arith, few, count);
          new = out.each;
          is_new = log.is_new;
          first = subst (λ (n : ℕ). AreFirstHomes (shape_of (record { mode = mode; disks = n })) (locations homes)) (sym count) can.first;
          own = can.own;
        }

        out_since : (d v : ℕ) → IsBeside vid 0 (disks + 1) d v → now.is_out d v ≡ old.is_out d v
        out_since d v beside = out.others.out d v (subst (λ (n : ℕ). IsBeside vid 1 n d v) (sym count) (behind d v beside)) ∙ log.one.others.out d v (aside d v beside)

        places_since : (d v : ℕ) → IsBeside vid 0 (disks + 1) d v → now.place d v ≡ old.place d v
        places_since d v beside = out.others.places d v (subst (λ (n : ℕ). IsBeside vid 1 n d v) (sym count) (behind d v beside)) ∙ log.one.others.places d v (aside d v beside)

        first_out : now.is_out 0 vid ≡ true
        first_out = out.others.out 0 vid (λ from below same. omega (arith, from)) ∙ log.one.out

        all_out : (d : ℕ) → d < disks + 1 → now.is_out d vid ≡ true
        all_out zero below = first_out
        all_out (suc d) below = out.out (suc d) (omega arith) (omega (arith, below, count))

        stations_tell : old.is_told ≡ true → are_told shelf_seen seen stations ≡ true
        stations_tell told = out.tell (log.one.told ∙ told)

        -- the volume is made
        module _ (world : WorldOver S F) (made : IsMadeOf shelf_seen seen vid mode stations file homes world) where
          led : old.is_told ≡ true → IsLedTo shelf_seen seen world (made_with (shape_of world.shape).total world.first)
          led told = record {
            at = made.told (stations_tell told) (log.told told);
            run = subst (λ entries. MayRun world.vid (shape_of world.shape) (made_with (shape_of world.shape).total world.first) entries (made_with (shape_of world.shape).total world.first)) (sym made.entries) refl;
          }

          file_tells : (content : Option (List ℕ)) → IsSome content → is_some content ≡ true
          file_tells None some = cc some
          file_tells (Some bytes) some = refl

          both_tell : (x y : Bool) → x ≡ true → y ≡ true → (x && y) ≡ true
          both_tell true true a b = refl
          both_tell true false a b = b
          both_tell false y a b = a

          pub volume_made : IsMade shelf_seen seen vid mode disks homes old now (record { manager = manager; world = world })
          volume_made = record {
            number = made.vid_is;
            shape = made.shape ∙ ap (λ (n : ℕ). record { mode = mode; disks = n }) count;
            first = made.first;
            entries = made.entries;
            out = λ d from below. all_out d (omega (arith, below));
            others = record { out = out_since; places = places_since };
            faults = out.faults ∙ log.one.faults;
            told = out.told ∙ log.one.told;
            tells = λ told. both_tell (are_told shelf_seen seen world.stations) (is_some (seen world.entry.book.log.file).content) (outlast_told stations world.stations made.lasts (stations_tell told))
                (made.log.tells ∙ file_tells (seen file).content (log.told told));
            made = led;
          }

        -- it isn't, and everything goes back
        module _ (refused : RefusedOver S F) (handed : HandsBack shelf_seen seen vid mode stations file homes refused) where
          pub refused_on : AreOn vid 1 refused.stations
          refused_on = outlast_on vid 1 stations refused.stations handed.lasts out.on

          long : length refused.stations ≡ length stations
          long = outlast_length stations refused.stations handed.lasts

          pub refused_out : AreOut vid 1 (length refused.stations) now
          refused_out = subst (λ (n : ℕ). AreOut vid 1 n now) (sym long) out.out

          module _ (mid : FarmView S) (rest : Returns shelf_seen seen vid 1 refused.stations now mid) where
            pub log_out_still : mid.is_out 0 vid ≡ true
            log_out_still = rest.others.out 0 vid (λ from below same. omega (arith, from)) ∙ first_out

            module _ (new : FarmView S) (returned : ReturnsLog shelf_seen seen vid manager refused.file mid new) where
              whole : length refused.stations ≡ disks
              whole = long ∙ count

              stay : OthersStay vid 0 (disks + 1) now new
              stay = subst (λ (n : ℕ). OthersStay vid 0 (n + 1) now new) whole (others_stay shelf_seen seen vid refused.stations now mid new rest returned.shelf returned.takes)

              none_before : all.faults_of shelf_seen seen stations + (seen file).faults ≡ 0
              none_before = let a = out.none_failed in let b = log.faults in omega (arith, a, b)

              counted : min (old.faults + (all.faults_of shelf_seen seen refused.stations + (seen refused.file).faults)) (2 ^ 64 - 1) ≤ new.faults
              counted =
                  let was = out.faults in let first = log.one.faults in let its = rest.count in let own = returned.log.count in let takes = returned.takes.count in
                  omega (arith, was, first, its, own, takes)

              never : old.faults ≤ new.faults
              never = let was = out.faults in let first = log.one.faults in let its = rest.never_falls in let takes = returned.takes.never_falls in omega (arith, was, first, its, takes)

              pub no_volume : AreRefused vid 0 (disks + 1) old new refused.fault
              no_volume = record {
                back = subst (λ (n : ℕ). AreBack vid 0 (n + 1) new) whole (all_back shelf_seen seen vid refused.stations now mid new rest returned.shelf returned.takes);
                others = record {
                  out = λ d v beside. stay.out d v beside ∙ out_since d v beside;
                  places = λ d v beside. stay.places d v beside ∙ places_since d v beside;
                };
                counts = counts_back refused.fault (all.faults_of shelf_seen seen refused.stations + (seen refused.file).faults) old.faults new.faults
                    (subst (λ (n : ℕ). CountsRefusal n (all.faults_of shelf_seen seen refused.stations + (seen refused.file).faults) refused.fault) none_before handed.counts) counted never;
                told = returned.takes.told ∙ rest.told ∙ out.told ∙ log.one.told;
                plain = λ told. handed.plain (stations_tell told) (log.told told);
              }
