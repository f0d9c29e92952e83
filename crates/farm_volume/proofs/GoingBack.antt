-- Shelves that go back one by one, the last first.
use Rattle.std.proofs.Common.{◌≡◌, ◌∙◌, sym, ap, refl, subst, ℕ, suc, ◌+◌, ◌-◌, ◌<◌, ◌≤◌, true, false, List, [], ◌∷◌, ◌++◌, length, length-append, arith}
use Rattle.std.proofs.lemmas.List.Sums.{sum_by-cons}
use Rattle.disk_base.specs.Disk.{FileView}
use Rattle.disk_base.specs.Places.{Kept}
use Rattle.disk_base.specs.Shelves.{ShelfView}
use Rattle.disk_base.specs.Farms.{FarmView, TakesShelfBack}
use Rattle.blob_node.specs.Station.{StationOver, IsHandedBack}
use Rattle.blob_node.specs.Station as single
use Rattle.volume_world.specs.Stations.{AreOn}
use Rattle.volume_world.specs.Stations as all
use Rattle.farm_volume.specs.Lending.{AllKept, AreOut, IsBeside, OthersStay, Returns}

pub stay_same : {S : Type 0} (vid first count : ℕ) (farm : FarmView S) → OthersStay vid first count farm farm
stay_same vid first count farm = record { out = λ d v beside. refl; places = λ d v beside. refl }

module _ {S E : Type 0} where
  -- all but the last
  front_on : (vid first : ℕ) (stations : List (StationOver S E)) (last : StationOver S E) → AreOn vid first (stations ++ last ∷ []) → AreOn vid first stations
  front_on vid first [] last on = tt
  front_on vid first (station ∷ stations) last on = (on.0, on.1, front_on vid (suc first) stations last on.2)

  last_on : (vid first : ℕ) (stations : List (StationOver S E)) (last : StationOver S E) → AreOn vid first (stations ++ last ∷ []) → last.disk ≡ first + length stations
  last_on vid first [] last on = on.1 ∙ omega arith
  last_on vid first (station ∷ stations) last on = let e = last_on vid (suc first) stations last on.2 in e ∙ omega arith

module _ {S E : Type 0} (shelf_seen : S → ShelfView E) (seen : E → FileView) where
  -- the shelf of a station is back
  pub record IsReturned (vid : ℕ) (station : StationOver S E) (old new : FarmView S) : Type 0 where
    pub shelf : S
    pub handed : IsHandedBack shelf_seen seen station shelf
    pub takes : TakesShelfBack shelf_seen station.disk vid shelf old new

  -- one after the other, the last first
  abbrev pub ReturnsEach : ℕ → List (StationOver S E) → FarmView S → FarmView S → Type 0
  ReturnsEach vid [] old new = new ≡ old
  ReturnsEach vid (station ∷ stations) old new = (mid : FarmView S) × ReturnsEach vid stations old mid × IsReturned vid station mid new

  last_first : (vid : ℕ) (stations : List (StationOver S E)) (last : StationOver S E) (old mid new : FarmView S) → IsReturned vid last old mid → ReturnsEach vid stations mid new
      → ReturnsEach vid (stations ++ last ∷ []) old new
  last_first vid [] last old mid new one rest = (old, refl, subst (λ (f : FarmView S). IsReturned vid last old f) (sym rest) one)
  last_first vid (station ∷ stations) last old mid new one rest = (rest.0, last_first vid stations last old mid rest.0 one rest.1, rest.2)

  -- ---- what it leaves

  module _ (vid disk : ℕ) (shelf : S) (old new : FarmView S) (takes : TakesShelfBack shelf_seen disk vid shelf old new) where
    pub kept_still : (first : ℕ) (stations : List (StationOver S E)) → disk < first → AreOn vid first stations → AllKept shelf_seen seen vid stations old → AllKept shelf_seen seen vid stations new
    kept_still first [] less on kept = tt
    kept_still first (station ∷ stations) less on kept = (
      record {
        shelf = kept.0.shelf;
        kept = takes.others.places station.disk vid (λ same v. let is = on.1 in omega (arith, same, is, less)) ∙ kept.0.kept;
        handed = kept.0.handed;
      },
      kept_still (suc first) stations (omega (arith, less)) on.2 kept.1,
    )

  count_of : (station : StationOver S E) (stations : List (StationOver S E)) → all.faults_of shelf_seen seen (station ∷ stations) ≡ single.faults_of shelf_seen seen station + all.faults_of shelf_seen seen stations
  count_of station stations = sum_by-cons (single.faults_of shelf_seen seen) station stations

  -- one more is back in front of those that are
  module _ (vid first : ℕ) (station : StationOver S E) (stations : List (StationOver S E)) (on : AreOn vid first (station ∷ stations)) (old mid new : FarmView S)
      (rest : Returns shelf_seen seen vid (suc first) stations old mid) (shelf : S) (handed : IsHandedBack shelf_seen seen station shelf)
      (takes : TakesShelfBack shelf_seen first vid shelf mid new) where
    apart : (d v : ℕ) → IsBeside vid first (suc (length stations)) d v → d ≡ first → v ≡ vid → ⊥
    apart d v beside same number = beside (omega (arith, same)) (omega (arith, same)) number

    behind : (d v : ℕ) → IsBeside vid first (suc (length stations)) d v → IsBeside vid (suc first) (length stations) d v
    behind d v beside from below number = beside (omega (arith, from)) (omega (arith, below)) number

    back_at : (d : ℕ) → first ≤ d → d < first + suc (length stations) → (n : ℕ) → n ≡ d - first → new.is_out d vid ≡ false
    back_at d from below ℕ.zero e = let here : first ≡ d = omega (arith, from, e) in subst (λ n. new.is_out n vid ≡ false) here takes.out
    back_at d from below (suc n) e =
        takes.others.out d vid (λ same v. omega (arith, same, e)) ∙ rest.back d (omega (arith, from, e)) (omega (arith, below))

    returns_more : Returns shelf_seen seen vid first (station ∷ stations) old new
    returns_more = record {
      back = λ d from below. back_at d from below (d - first) refl;
      kept = (
        record { shelf = shelf; kept = subst (λ d. new.place d vid ≡ Kept shelf) (sym on.1) takes.kept; handed = handed },
        kept_still vid first shelf mid new takes (suc first) stations (omega arith) on.2 rest.kept,
      );
      others = record {
        out = λ d v beside. takes.others.out d v (apart d v beside) ∙ rest.others.out d v (behind d v beside);
        places = λ d v beside. takes.others.places d v (apart d v beside) ∙ rest.others.places d v (behind d v beside);
      };
      count =
          let sum = count_of station stations in let was = rest.count in let its = takes.count in let own = handed.count in let never = takes.never_falls in
          omega (arith, sum, was, its, own, never);
      never_falls = let was = rest.never_falls in let never = takes.never_falls in omega (arith, was, never);
      told = takes.told ∙ rest.told;
    }

  none_returned : (vid first : ℕ) (old : FarmView S) → Returns shelf_seen seen vid first [] old old
  none_returned vid first old = record {
    back = λ d from below. absurd (omega (arith, from, below));
    kept = tt;
    others = stay_same vid first 0 old;
    count = omega arith;
    never_falls = omega arith;
    told = refl;
  }

  returns_of : (vid first : ℕ) (stations : List (StationOver S E)) → AreOn vid first stations → (old new : FarmView S) → ReturnsEach vid stations old new → Returns shelf_seen seen vid first stations old new
  returns_of vid first [] on old new is = subst (λ (f : FarmView S). Returns shelf_seen seen vid first [] old f) (sym is) (none_returned vid first old)
  returns_of vid first (station ∷ stations) on old new is =
      returns_more vid first station stations on old is.0 new (returns_of vid (suc first) stations on.2 old is.0 is.1) is.2.shelf is.2.handed
      (subst (λ d. TakesShelfBack shelf_seen d vid is.2.shelf is.0 new) on.1 is.2.takes)

  -- ---- the loop

  -- these are still out, and once they are back as well all are
  pub record Returning (vid : ℕ) (whole : List (StationOver S E)) (old : FarmView S) (left : List (StationOver S E)) (now : FarmView S) : Type 0 where
    pub on : AreOn vid 1 left
    pub out : AreOut vid 1 (length left) now
    pub rest : (new : FarmView S) → ReturnsEach vid left now new → ReturnsEach vid whole old new

  pub none_back : (vid : ℕ) (whole : List (StationOver S E)) (old : FarmView S) → AreOn vid 1 whole → AreOut vid 1 (length whole) old → Returning vid whole old whole old
  none_back vid whole old on out = record { on = on; out = out; rest = λ new is. is }

  module _ (vid : ℕ) (whole : List (StationOver S E)) (old : FarmView S) (left : List (StationOver S E)) (now : FarmView S) (is : Returning vid whole old left now) where
    module _ (fewer : List (StationOver S E)) (last : StationOver S E) (same : left ≡ fewer ++ last ∷ []) where
      on_them : AreOn vid 1 (fewer ++ last ∷ [])
      on_them = subst (AreOn vid 1) same is.on

      long : length left ≡ length fewer + 1
      long = ap length same ∙ length-append fewer (last ∷ [])

      pub last_is_out : now.is_out last.disk vid ≡ true
      last_is_out = let at = last_on vid 1 fewer last on_them in let l = long in is.out last.disk (omega (arith, at)) (omega (arith, at, l))

      pub one_returned : (shelf : S) → IsHandedBack shelf_seen seen last shelf → (new : FarmView S) → TakesShelfBack shelf_seen last.disk vid shelf now new → Returning vid whole old fewer new
      one_returned shelf handed new takes = record {
        on = front_on vid 1 fewer last on_them;
        out = λ d from below.
            let at = last_on vid 1 fewer last on_them in let l = long in
            takes.others.out d vid (λ here v. omega (arith, here, at, below)) ∙ is.out d from (omega (arith, below, l));
        rest = λ then behind. is.rest then (subst (λ ss. ReturnsEach vid ss now then) (sym same) (last_first vid fewer last now new then (record { shelf = shelf; handed = handed; takes = takes }) behind));
      }

    pub all_returned : AreOn vid 1 whole → left ≡ [] → Returns shelf_seen seen vid 1 whole old now
    all_returned on none = returns_of vid 1 whole on old now (is.rest now (subst (λ ss. ReturnsEach vid ss now now) (sym none) refl))
