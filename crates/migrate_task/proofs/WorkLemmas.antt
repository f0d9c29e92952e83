-- Lemmas on what a task knows of the volume.
use Rattle.std.proofs.Common.{◌≡◌, ℕ, zero, suc, ◌+◌, ◌<◌, ◌≤◌, inl, inr, Bool, true, false, cond, not, ◌||◌, ◌==◌, List, [], ◌∷◌, ◌++◌, length, map, filter, take, drop, set, get_or, refl, sym, ◌∙◌, ap, subst, arith}
use Rattle.std.proofs.lemmas.List.{take_more, take_all, drop_all, length-take, at_drop_more, append-nil, map-append}
use Rattle.unit_id.specs.Lists.{IsIn}
use Rattle.unit_id.specs.declared.homes.Home.{Home}
use Rattle.unit_id.specs.declared.moves.Move.{Move}
use Rattle.unit_id.specs.declared.targets.Target.{Target}
use Rattle.unit_id.specs.declared.task.Task.{Task}
use Rattle.code_mode.specs.declared.mode.Mode.{Mode}
use Rattle.code_mode.proofs.Numbers.{sound_shapes}
use Rattle.code_mode.specs.VolumeShape.{VolumeShape}
use Rattle.volume_entry.specs.Manager.{IsDisk}
use Rattle.volume_entry.specs.ManagerStep.{AreTargets}
use Rattle.volume_world.specs.declared.event.Event.TheVariants as events
use Rattle.volume_world.specs.Way.{Origin, WayView, shape_of}
use Rattle.volume_world.specs.Asking.{IsUnitOn, MayAsk}
use Rattle.volume_world.specs.Replying.{AreHomesFrom, AreHomes, AreMovesEach, AreMoves}
use Rattle.migrate_task.specs.declared.work.Journey.{Journey}
use Rattle.migrate_task.specs.Work.{Work, nowhere, home_of, journey_to, journey_from, journeys_to, journeys_from, broken_at, old_broken_at, with_broken, with_old_units, unbroken}
use Rattle.migrate_task.specs.AdvanceCall.{target_disk, units_in, first_old}
use Rattle.migrate_task.specs.TaskParts.{lacks_disk, IsTaskTarget, IsTaskOf, IsJourney, AreJourneys, AreUnits, IsWorkOn}

-- ---- homes and moves

-- each home is a unit of the volume, with the index of its place
pub home_at : (origin : Origin) (first : ℕ) (homes : List Home) (i : ℕ) (d : Home) → AreHomesFrom origin first homes → i < length homes
    → IsUnitOn origin (get_or homes i d).unit (get_or homes i d).disk × ((get_or homes i d).unit.index ≡ first + i)
home_at origin first [] i d h below = absurd (omega arith)
home_at origin first (home ∷ homes) zero d h below = (h.0, h.1 ∙ omega arith)
home_at origin first (home ∷ homes) (suc i) d h below = let rest = home_at origin (suc first) homes i d h.2 (omega arith) in (rest.0, rest.1 ∙ omega arith)

-- a place of a list doesn't depend on what stands where it has none
pub any_default : {A : Type 0} (xs : List A) (i : ℕ) (c d : A) → i < length xs → get_or xs i c ≡ get_or xs i d
any_default [] i c d below = absurd (omega arith)
any_default (x ∷ xs) zero c d below = refl
any_default (x ∷ xs) (suc i) c d below = any_default xs i c d (omega arith)

pub move_at : (origin : Origin) (moves : List Move) (i : ℕ) (d : Move) → AreMovesEach origin moves → i < length moves → (get_or moves i d).index < (shape_of origin).total
move_at origin [] i d h below = absurd (omega arith)
move_at origin (move ∷ moves) zero d h below = subst (λ n. n < (shape_of origin).total) h.1 h.0.index
move_at origin (move ∷ moves) (suc i) d h below = move_at origin moves i d h.2 (omega arith)

-- the index of a move is one of a home
pub move_below : (origin : Origin) (homes : List Home) (moves : List Move) (i : ℕ) (m : Move) → AreHomes origin homes → AreMoves origin moves → i < length moves → m ≡ get_or moves i m → m.index < length homes
move_below origin homes moves i m h k below is =
    subst (λ n. m.index < n) (sym h.count) (subst (λ (x : Move). x.index < (shape_of origin).total) (sym is) (move_at origin moves i m k.each below))

-- ---- journeys

map_more : {A B : Type 0} (f : A → B) (xs : List A) (i : ℕ) (x : A) → i < length xs → x ≡ get_or xs i x → map f (take (i + 1) xs) ≡ map f (take i xs) ++ f x ∷ []
map_more f xs i x below is =
    ap (map f) (take_more xs i x below) ∙ map-append f (take i xs) (get_or xs i x ∷ []) ∙ ap (λ y. map f (take i xs) ++ f y ∷ []) (sym is)

pub to_more : (homes : List Home) (moves : List Move) (i : ℕ) (m : Move) (js ks : List Journey) (j : Journey) → i < length moves → m ≡ get_or moves i m → j ≡ journey_to homes m → js ≡ journeys_to homes (take i moves)
    → ks ≡ js ++ j ∷ [] → ks ≡ journeys_to homes (take (i + 1) moves)
to_more homes moves i m js ks j below is e had added =
    added ∙ ap (λ xs. xs ++ j ∷ []) had ∙ ap (λ x. journeys_to homes (take i moves) ++ x ∷ []) e ∙ sym (map_more (journey_to homes) moves i m below is)

pub from_more : (homes : List Home) (moves : List Move) (i : ℕ) (m : Move) (js ks : List Journey) (j : Journey) → i < length moves → m ≡ get_or moves i m → j ≡ journey_from homes m → js ≡ journeys_from homes (take i moves)
    → ks ≡ js ++ j ∷ [] → ks ≡ journeys_from homes (take (i + 1) moves)
from_more homes moves i m js ks j below is e had added =
    added ∙ ap (λ xs. xs ++ j ∷ []) had ∙ ap (λ x. journeys_from homes (take i moves) ++ x ∷ []) e ∙ sym (map_more (journey_from homes) moves i m below is)

-- all moves are taken
pub to_all : (homes : List Home) (moves : List Move) (i : ℕ) (js : List Journey) → length moves ≤ i → js ≡ journeys_to homes (take i moves) → js ≡ journeys_to homes moves
to_all homes moves i js over had = had ∙ ap (journeys_to homes) (take_all i moves over)

pub from_all : (homes : List Home) (moves : List Move) (i : ℕ) (js : List Journey) → length moves ≤ i → js ≡ journeys_from homes (take i moves) → js ≡ journeys_from homes moves
from_all homes moves i js over had = had ∙ ap (journeys_from homes) (take_all i moves over)

unit_by : (origin : Origin) (m : Move) → IsUnitOn origin m.unit m.disk → m.unit.index ≡ m.index → m.index < (shape_of origin).total
unit_by origin m h e = subst (λ n. n < (shape_of origin).total) e h.index

home_by : (origin : Origin) (homes : List Home) (index : ℕ) → AreHomes origin homes → index < (shape_of origin).total
    → IsUnitOn origin (home_of homes index).unit (home_of homes index).disk × ((home_of homes index).unit.index ≡ index)
home_by origin homes index h below =
    let at = home_at origin 0 homes index nowhere h.each (subst (λ n. index < n) (sym h.count) below) in (at.0, at.1 ∙ omega arith)

to_journeys : (origin : Origin) (homes : List Home) (moves : List Move) → AreHomes origin homes → AreMovesEach origin moves → AreJourneys origin (journeys_to homes moves)
to_journeys origin homes [] h k = tt
to_journeys origin homes (m ∷ moves) h k =
    let old = home_by origin homes m.index h (unit_by origin m k.0 k.1) in
    (record { old = old.0; old_index = old.1; dest = k.0; dest_index = k.1 }, to_journeys origin homes moves h k.2)

from_journeys : (origin : Origin) (homes : List Home) (moves : List Move) → AreHomes origin homes → AreMovesEach origin moves → AreJourneys origin (journeys_from homes moves)
from_journeys origin homes [] h k = tt
from_journeys origin homes (m ∷ moves) h k =
    let dest = home_by origin homes m.index h (unit_by origin m k.0 k.1) in
    (record { old = k.0; old_index = k.1; dest = dest.0; dest_index = dest.1 }, from_journeys origin homes moves h k.2)

map_length : {A B : Type 0} (f : A → B) (xs : List A) → length (map f xs) ≡ length xs
map_length f [] = refl
map_length f (x ∷ xs) = ap suc (map_length f xs)

few : (origin : Origin) (moves : List Move) → AreMoves origin moves → length moves ≤ 9
few origin moves h = let shape = (sound_shapes origin.mode origin.disks).few_moves in let most = h.most in omega arith

pub work_on_to : (origin : Origin) (mode : Mode) (task lock : ℕ) (homes : List Home) (moves : List Move) → mode ≡ origin.mode → AreHomes origin homes → AreMoves origin moves
    → IsWorkOn origin (record { mode = mode; task = task; lock = lock; homes = homes; journeys = journeys_to homes moves })
work_on_to origin mode task lock homes moves e h k =
    record { mode = e; homes = h; journeys = to_journeys origin homes moves h k.each; most = subst (λ n. n ≤ 9) (sym (map_length (journey_to homes) moves)) (few origin moves k) }

pub work_on_from : (origin : Origin) (mode : Mode) (task lock : ℕ) (homes : List Home) (moves : List Move) → mode ≡ origin.mode → AreHomes origin homes → AreMoves origin moves
    → IsWorkOn origin (record { mode = mode; task = task; lock = lock; homes = homes; journeys = journeys_from homes moves })
work_on_from origin mode task lock homes moves e h k =
    record { mode = e; homes = h; journeys = from_journeys origin homes moves h k.each; most = subst (λ n. n ≤ 9) (sym (map_length (journey_from homes) moves)) (few origin moves k) }

-- ---- disks that count as broken

set_suc : {A : Type 0} (f : A → A) (xs : List A) (i : ℕ) (d : A) → i < length xs
    → set (map f (take i xs) ++ drop i xs) i (f (get_or (map f (take i xs) ++ drop i xs) i d)) ≡ map f (take (suc i) xs) ++ drop (suc i) xs
set_suc f [] i d below = absurd (omega arith)
set_suc f (x ∷ xs) zero d below = refl
set_suc f (x ∷ xs) (suc i) d below = ap (λ ys. f x ∷ ys) (set_suc f xs i d (omega arith))

-- one element more of a list is changed in its place
pub changed_more : {A : Type 0} (f : A → A) (xs ys : List A) (i : ℕ) (d v : A) → i < length xs → ys ≡ map f (take i xs) ++ drop i xs → v ≡ f (get_or ys i d)
    → set ys i v ≡ map f (take (i + 1) xs) ++ drop (i + 1) xs
changed_more f xs ys i d v below e is =
    let more : suc i ≡ i + 1 = omega arith in
    ap (set ys i) is ∙ ap (λ zs. set zs i (f (get_or zs i d))) e ∙ set_suc f xs i d below ∙ ap (λ n. map f (take n xs) ++ drop n xs) more

pub changed_all : {A : Type 0} (f : A → A) (xs ys : List A) (i : ℕ) → length xs ≤ i → ys ≡ map f (take i xs) ++ drop i xs → ys ≡ map f xs
changed_all f xs ys i over e =
    e ∙ ap (λ zs. map f (take i xs) ++ zs) (drop_all i xs over) ∙ append-nil (map f (take i xs)) ∙ ap (map f) (take_all i xs over)

homes_broken : (origin : Origin) (first disk : ℕ) (homes : List Home) → AreHomesFrom origin first homes → AreHomesFrom origin first (map (broken_at disk) homes)
homes_broken origin first disk [] h = tt
homes_broken origin first disk (home ∷ homes) h = (h.0, h.1, homes_broken origin (suc first) disk homes h.2)

journeys_broken : (origin : Origin) (disk : ℕ) (js : List Journey) → AreJourneys origin js → AreJourneys origin (map (old_broken_at disk) js)
journeys_broken origin disk [] h = tt
journeys_broken origin disk (j ∷ js) h = (record { old = h.0.old; old_index = h.0.old_index; dest = h.0.dest; dest_index = h.0.dest_index }, journeys_broken origin disk js h.1)

pub work_broken : (origin : Origin) (disk : ℕ) (work : Work) → IsWorkOn origin work → IsWorkOn origin (with_broken disk work)
work_broken origin disk work h = record {
  mode = h.mode;
  homes = record { count = map_length (broken_at disk) work.homes ∙ h.homes.count; each = homes_broken origin 0 disk work.homes h.homes.each };
  journeys = journeys_broken origin disk work.journeys h.journeys;
  most = subst (λ n. n ≤ 9) (sym (map_length (old_broken_at disk) work.journeys)) h.most;
}

pub journey_at : (origin : Origin) (js : List Journey) (i : ℕ) (j : Journey) → AreJourneys origin js → i < length js → j ≡ get_or js i j → IsJourney origin j
journey_at origin js i j h below is = subst (IsJourney origin) (sym is) (there js i h below)
  where
    there : (js : List Journey) (i : ℕ) → AreJourneys origin js → i < length js → IsJourney origin (get_or js i j)
    there [] i h below = absurd (omega arith)
    there (x ∷ js) zero h below = h.0
    there (x ∷ js) (suc i) h below = there js i h.1 (omega arith)

-- ---- targets

has_disk : (ts : List Target) (t : Target) → lacks_disk ts ≡ false → IsIn t ts → (t.disk ≡ 0) → ⊥
has_disk [] t e i z = absurd i
has_disk (u ∷ us) t e (inl same) z = zero_disk u.disk (lacks_disk us) e (ap (λ (x : Target). x.disk) (sym same) ∙ z)
  where
    zero_disk : (disk : ℕ) (rest : Bool) → (disk == 0) || rest ≡ false → disk ≡ 0 → ⊥
    zero_disk zero rest e z = absurd (cc)
    zero_disk (suc n) rest e z = absurd (omega arith)
has_disk (u ∷ us) t e (inr there) z = has_disk us t (rest_false (u.disk == 0) (lacks_disk us) e) there z
  where
    rest_false : (a b : Bool) → a || b ≡ false → b ≡ false
    rest_false true b e = absurd (cc)
    rest_false false b e = e

-- a task with a disk for each target can ask for the lock
pub lock_may : (way : WayView) (task : Task) (targets : List Target) → IsTaskOf way.origin task → lacks_disk task.targets ≡ false → targets ≡ task.targets → MayAsk way (events.Lock task.id targets)
lock_may way task targets h e is = record {
  fits = subst (AreTargets (shape_of way.origin)) (sym is) (record {
    some = h.some;
    most = h.most;
    order = h.order;
    each = λ t i. record { index = (h.each t i).index; disk = (h.each t i).disk (has_disk task.targets t e i) };
  });
  right = λ told w at. tt;
}

-- ---- old units

-- those on unbroken disks are some of all
pub old_units_are : (origin : Origin) (js : List Journey) → AreJourneys origin js → AreJourneys origin (with_old_units js)
old_units_are origin [] h = tt
old_units_are origin (j ∷ js) h = kept (not j.old.broken) (with_old_units js) (old_units_are origin js h.1)
  where
    kept : (test : Bool) (rest : List Journey) → AreJourneys origin rest → AreJourneys origin (cond test (j ∷ rest) rest)
    kept true rest k = (h.0, k)
    kept false rest k = k

-- where a disk counts as broken from now on, or doesn't
pub work_heard : (origin : Origin) (is_broken : Bool) (disk : ℕ) (work : Work) → IsWorkOn origin work → IsWorkOn origin (cond is_broken (with_broken disk work) work)
work_heard origin true disk work h = work_broken origin disk work h
work_heard origin false disk work h = h

-- a unit of the volume, whichever way it is looked at
pub old_there : (now then : Origin) (js : List Journey) (i : ℕ) (j : Journey) → now ≡ then → AreJourneys then js → i < length js → j ≡ get_or js i j → IsUnitOn now j.old.unit j.old.disk
old_there now then js i j same h below is = subst (λ (o : Origin). IsUnitOn o j.old.unit j.old.disk) (sym same) (journey_at then js i j h below is).old

pub dest_there : (now then : Origin) (js : List Journey) (i : ℕ) (j : Journey) → now ≡ then → AreJourneys then js → i < length js → j ≡ get_or js i j → IsUnitOn now j.dest.unit j.dest.disk
dest_there now then js i j same h below is = subst (λ (o : Origin). IsUnitOn o j.dest.unit j.dest.disk) (sym same) (journey_at then js i j h below is).dest

-- ---- current units on unbroken disks

pub unbroken_are : (origin : Origin) (first : ℕ) (homes : List Home) → AreHomesFrom origin first homes → AreUnits origin (unbroken homes)
unbroken_are origin first [] h = tt
unbroken_are origin first (home ∷ homes) h = kept (not home.broken) (unbroken homes) (unbroken_are origin (suc first) homes h.2)
  where
    kept : (test : Bool) (rest : List Home) → AreUnits origin rest → AreUnits origin (cond test (home ∷ rest) rest)
    kept true rest k = (h.0, k)
    kept false rest k = k

pub unit_there : (now then : Origin) (homes : List Home) (i : ℕ) (home : Home) → now ≡ then → AreUnits then homes → i < length homes → home ≡ get_or homes i home → IsUnitOn now home.unit home.disk
unit_there now then homes i home same h below is = subst (λ (o : Origin). IsUnitOn o home.unit home.disk) (sym same) (subst (λ (x : Home). IsUnitOn then x.unit x.disk) (sym is) (there homes i h below))
  where
    there : (homes : List Home) (i : ℕ) → AreUnits then homes → i < length homes → IsUnitOn then (get_or homes i home).unit (get_or homes i home).disk
    there [] i h below = absurd (omega arith)
    there (x ∷ homes) zero h below = h.0
    there (x ∷ homes) (suc i) h below = there homes i h.1 (omega arith)

-- ---- other disks

target_on : (shape : VolumeShape) (ts : List Target) (index : ℕ) → ((t : Target) → IsIn t ts → IsTaskTarget shape t) → (target_disk ts index ≡ 0 → ⊥) → IsDisk shape (target_disk ts index)
target_on shape [] index h ne = absurd (ne refl)
target_on shape (t ∷ ts) index h ne = first (t.index == index) (target_on shape ts index (λ u i. h u (inr i))) ne
  where
    first : (test : Bool) → ((target_disk ts index ≡ 0 → ⊥) → IsDisk shape (target_disk ts index)) → (cond test t.disk (target_disk ts index) ≡ 0 → ⊥) → IsDisk shape (cond test t.disk (target_disk ts index))
    first true rest ne = (h t (inl refl)).disk ne
    first false rest ne = rest ne

-- a task can ask for the disk of its target
pub retarget_may : (way : WayView) (task : Task) (index disk : ℕ) → IsTaskOf way.origin task → index < (shape_of way.origin).total → disk ≡ target_disk task.targets index → (disk ≡ 0 → ⊥)
    → MayAsk way (events.Retarget task.id index disk)
retarget_may way task index disk h below is ne = record {
  fits = (below, subst (IsDisk (shape_of way.origin)) (sym is) (target_on (shape_of way.origin) task.targets index h.each (λ z. ne (is ∙ z))));
  right = λ told w at. tt;
}

-- with other moves of its lock
pub work_again : (origin : Origin) (work : Work) (moves : List Move) → IsWorkOn origin work → AreMoves origin moves → IsWorkOn origin (record work { journeys = journeys_to work.homes moves })
work_again origin work moves h k =
    record { mode = h.mode; homes = h.homes; journeys = to_journeys origin work.homes moves h.homes k.each; most = subst (λ n. n ≤ 9) (sym (map_length (journey_to work.homes) moves)) (few origin moves k) }

-- the index of a move is one of the volume, whichever way it is looked at
pub move_there : (now then : Origin) (moves : List Move) (i : ℕ) (m : Move) → now ≡ then → AreMovesEach then moves → i < length moves → m ≡ get_or moves i m → m.index < (shape_of now).total
move_there now then moves i m same h below is =
    subst (λ (o : Origin). m.index < (shape_of o).total) (sym same) (subst (λ (x : Move). x.index < (shape_of then).total) (sym is) (move_at then moves i m h below))

-- a target isn't the one of this index
pub target_passed : (ts : List Target) (i index : ℕ) (t : Target) → i < length ts → t ≡ get_or ts i t → t.index == index ≡ false → target_disk (drop i ts) index ≡ target_disk (drop (i + 1) ts) index
target_passed ts i index t below is e =
    at_drop_more (λ us. target_disk us index) ts i t below ∙ ap (λ (u : Target). cond (u.index == index) u.disk (target_disk (drop (i + 1) ts) index)) (sym is) ∙ ap (λ b. cond b t.disk (target_disk (drop (i + 1) ts) index)) e

-- .. or it is
pub target_found : (ts : List Target) (i index : ℕ) (t : Target) → i < length ts → t ≡ get_or ts i t → t.index == index ≡ true → target_disk (drop i ts) index ≡ t.disk
target_found ts i index t below is e =
    at_drop_more (λ us. target_disk us index) ts i t below ∙ ap (λ (u : Target). cond (u.index == index) u.disk (target_disk (drop (i + 1) ts) index)) (sym is) ∙ ap (λ b. cond b t.disk (target_disk (drop (i + 1) ts) index)) e

-- what is broken of moves is of the volume
pub some_moves_are : (origin : Origin) (moves : List Move) → AreMovesEach origin moves → AreMovesEach origin (filter (λ (move : Move). move.dest_broken) moves)
some_moves_are origin [] h = tt
some_moves_are origin (m ∷ moves) h = kept m.dest_broken (filter (λ (move : Move). move.dest_broken) moves) (some_moves_are origin moves h.2)
  where
    kept : (test : Bool) (rest : List Move) → AreMovesEach origin rest → AreMovesEach origin (cond test (m ∷ rest) rest)
    kept true rest k = (h.0, h.1, k)
    kept false rest k = k

-- all units that the swap put in so far, and one more
pub units_more : (js : List Journey) (i : ℕ) (j : Journey) → i < length js → j ≡ get_or js i j → units_in (take (i + 1) js) ≡ units_in (take i js) ++ record (j.dest) { broken = false } ∷ []
units_more js i j below is = map_more (λ (x : Journey). record (x.dest) { broken = false }) js i j below is

pub units_all : (js : List Journey) (i : ℕ) → length js ≤ i → units_in (take i js) ≡ units_in js
units_all js i over = ap units_in (take_all i js over)

pub units_few : (js : List Journey) (i : ℕ) → length (units_in (take i js)) ≤ i
units_few js i = let a = map_length (λ (x : Journey). record (x.dest) { broken = false }) (take i js) in let b = length-take i js in omega (arith, a, b)

-- the first old unit that isn't on a broken disk
pub old_found : (js : List Journey) (i : ℕ) (j : Journey) → i < length js → j ≡ get_or js i j → not j.old.broken ≡ true → with_old_units js ≡ with_old_units (drop i js) → j.old.disk ≡ first_old (with_old_units js ++ js)
old_found js i j below is sound same = sym (ap (λ xs. first_old (xs ++ js)) (same ∙ at_drop_more with_old_units js i j below ∙ ap (λ x. with_old_units (x ∷ drop (i + 1) js)) (sym is) ∙ ap (λ b. cond b (j ∷ with_old_units (drop (i + 1) js)) (with_old_units (drop (i + 1) js))) sound))

pub old_passed : (js : List Journey) (i : ℕ) (j : Journey) → i < length js → j ≡ get_or js i j → not j.old.broken ≡ false → with_old_units js ≡ with_old_units (drop i js) → with_old_units js ≡ with_old_units (drop (i + 1) js)
old_passed js i j below is sick same = same ∙ at_drop_more with_old_units js i j below ∙ ap (λ x. with_old_units (x ∷ drop (i + 1) js)) (sym is) ∙ ap (λ b. cond b (j ∷ with_old_units (drop (i + 1) js)) (with_old_units (drop (i + 1) js))) sick

pub old_none : (js : List Journey) (i : ℕ) → length js ≤ i → with_old_units js ≡ with_old_units (drop i js) → first_old (with_old_units js ++ js) ≡ first_old js
old_none js i over same = ap (λ xs. first_old (xs ++ js)) (same ∙ ap with_old_units (drop_all i js over))
