-- Shelves that go out one by one, and come back where the next one doesn't.
use Rattle.std.proofs.Common.{◌≡◌, ◌∙◌, ◌⊎◌, inl, inr, sym, refl, subst, ℕ, zero, suc, ◌+◌, ◌-◌, ◌<◌, ◌≤◌, ◌&&◌, Bool, true, false, List, [], ◌∷◌, ◌++◌, length, length-append, arith}
use Rattle.std.proofs.lemmas.List.Sums.{sum_by-cons}
use Rattle.unit_id.specs.Lists.{IsIn}
use Rattle.disk_base.specs.Disk.{FileView}
use Rattle.disk_base.specs.Shelves.{ShelfView}
use Rattle.disk_base.specs.Farms.{FarmView}
use Rattle.blob_node.specs.Station.{StationOver}
use Rattle.blob_node.specs.Station as single
use Rattle.volume_world.specs.Stations.{AreOn}
use Rattle.volume_world.specs.Stations as all
use Rattle.volume_world.specs.Origins.{are_told}
use Rattle.volume_world.specs.WorldMaking.{CountsRefusal, IsNewStation}
use Rattle.volume_world.specs.declared.world_fault.WorldFault.{WorldFault}
use Rattle.volume_world.specs.declared.world_fault.WorldFault.TheVariants as faults
use Rattle.farm_volume.specs.Lending.{IsBeside, OthersStay}
use Rattle.farm_volume.specs.Making.{AreLent, IsStationOut}

-- ---- causes

pub counts_then : (fault : WorldFault) (a b c : ℕ) → CountsRefusal a b fault → b ≤ c → CountsRefusal a c fault
counts_then faults.Fault a b c counts more = omega (arith, counts, more)
counts_then (faults.Damaged kept computed) a b c counts more = omega (arith, counts, more)
counts_then (faults.Spoiled place) a b c counts more = omega (arith, counts, more)
counts_then faults.Memory a b c counts more = omega (arith, counts, more)

module _ {S F : Type 0} where
  on_more : (vid first : ℕ) (stations : List (StationOver S F)) (station : StationOver S F) → AreOn vid first stations → station.vid ≡ vid → station.disk ≡ first + length stations → AreOn vid first (stations ++ station ∷ [])
  on_more vid first [] station on own at = (own, at ∙ omega arith, tt)
  on_more vid first (s ∷ stations) station on own at = (on.0, on.1, on_more vid (suc first) stations station on.2 own (at ∙ omega arith))

  either_in : (stations : List (StationOver S F)) (station other : StationOver S F) → IsIn other (stations ++ station ∷ []) → IsIn other stations ⊎ (other ≡ station)
  either_in [] station other (inl is) = inr is
  either_in [] station other (inr never) = absurd never
  either_in (s ∷ stations) station other (inl is) = inl (inl is)
  either_in (s ∷ stations) station other (inr there) = further (either_in stations station other there)
    where
      further : IsIn other stations ⊎ (other ≡ station) → IsIn other (s ∷ stations) ⊎ (other ≡ station)
      further (inl is) = inl (inr is)
      further (inr is) = inr is

module _ {S F : Type 0} (shelf_seen : S → ShelfView F) (seen : F → FileView) where
  both : (x y : Bool) → x ≡ true → y ≡ true → (x && y) ≡ true
  both true true a b = refl
  both true false a b = b
  both false y a b = a

  first_of : (x y : Bool) → (x && y) ≡ true → x ≡ true
  first_of true y a = refl
  first_of false y a = a

  second_of : (x y : Bool) → (x && y) ≡ true → y ≡ true
  second_of true y a = a
  second_of false y a = absurd (cc a)

  told_more : (stations : List (StationOver S F)) (station : StationOver S F) → are_told shelf_seen seen stations ≡ true → (shelf_seen station.shelf).is_told ≡ true → are_told shelf_seen seen (stations ++ station ∷ []) ≡ true
  told_more [] station all one = both (shelf_seen station.shelf).is_told true one refl
  told_more (s ∷ stations) station all one =
      let s_told = (shelf_seen s.shelf).is_told in let rest = are_told shelf_seen seen stations in
      both s_told (are_told shelf_seen seen (stations ++ station ∷ [])) (first_of s_told rest all) (told_more stations station (second_of s_told rest all) one)

  faults_more : (stations : List (StationOver S F)) (station : StationOver S F) → all.faults_of shelf_seen seen (stations ++ station ∷ []) ≡ all.faults_of shelf_seen seen stations + single.faults_of shelf_seen seen station
  faults_more [] station = sum_by-cons (single.faults_of shelf_seen seen) station [] ∙ omega arith
  faults_more (s ∷ stations) station =
      let head = sum_by-cons (single.faults_of shelf_seen seen) s (stations ++ station ∷ []) in
      let rest = faults_more stations station in
      let was = sum_by-cons (single.faults_of shelf_seen seen) s stations in
      omega (arith, head, rest, was)

  -- ---- one more

  pub none_lent : (vid : ℕ) (farm : FarmView S) → AreLent shelf_seen seen vid [] farm farm
  none_lent vid farm = record {
    on = tt;
    out = λ d from below. absurd (omega (arith, from, below));
    others = record { out = λ d v beside. refl; places = λ d v beside. refl };
    each = λ station never. absurd never;
    none_failed = refl;
    tell = λ told. refl;
    faults = refl;
    told = refl;
  }

  module _ (vid : ℕ) (old now : FarmView S) (stations : List (StationOver S F)) (lent : AreLent shelf_seen seen vid stations old now) where
    module _ (station : StationOver S F) (new : FarmView S) (one : IsStationOut shelf_seen seen vid (1 + length stations) station now new) where
      longer : length (stations ++ station ∷ []) ≡ length stations + 1
      longer = length-append stations (station ∷ [])

      out_at : (d : ℕ) → 1 ≤ d → d < 1 + (length stations + 1) → (n : ℕ) → n ≡ (1 + length stations) - d → new.is_out d vid ≡ true
      out_at d from below zero e = let here : 1 + length stations ≡ d = omega (arith, below, e) in subst (λ n. new.is_out n vid ≡ true) here one.one.out
      out_at d from below (suc n) e = one.one.others.out d vid (λ same v. omega (arith, same, e)) ∙ lent.out d from (omega (arith, e))

      apart : (d v : ℕ) → IsBeside vid 1 (length stations + 1) d v → d ≡ 1 + length stations → v ≡ vid → ⊥
      apart d v beside same number = beside (omega (arith, same)) (omega (arith, same)) number

      before : (d v : ℕ) → IsBeside vid 1 (length stations + 1) d v → IsBeside vid 1 (length stations) d v
      before d v beside from below number = beside from (omega (arith, below)) number

      new_one : (other : StationOver S F) → IsIn other stations ⊎ (other ≡ station) → IsNewStation shelf_seen seen vid other
      new_one other (inl there) = lent.each other there
      new_one other (inr is) = subst (λ (s : StationOver S F). IsNewStation shelf_seen seen vid s) (sym is) one.is_new

      pub one_more_lent : AreLent shelf_seen seen vid (stations ++ station ∷ []) old new
      one_more_lent = record {
        on = on_more vid 1 stations station lent.on one.vid_is one.disk_is;
        out = λ d from below. out_at d from (let l = longer in omega (arith, below, l)) ((1 + length stations) - d) refl;
        others = subst (λ (n : ℕ). OthersStay vid 1 n old new) (sym longer) (record {
          out = λ d v beside. one.one.others.out d v (apart d v beside) ∙ lent.others.out d v (before d v beside);
          places = λ d v beside. one.one.others.places d v (apart d v beside) ∙ lent.others.places d v (before d v beside);
        });
        each = λ other there. new_one other (either_in stations station other there);
        none_failed = faults_more stations station ∙ (let a = lent.none_failed in let b = one.faults in omega (arith, a, b));
        tell = λ told. told_more stations station (lent.tell told) (one.told ∙ lent.told ∙ told);
        faults = one.one.faults ∙ lent.faults;
        told = one.one.told ∙ lent.told;
      }
