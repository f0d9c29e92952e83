-- A restart: what the station stands for after each start in turn.
use Rattle.std.proofs.Common.{◌≡◌, ◌∙◌, sym, ap, refl, subst, ℕ, ◌≤◌, ◌<◌, ◌+◌, ◌++◌, Bool, true, false, cond, List, [], ◌∷◌, Option, None, Some, Result, Ok, Err, ◌⊎◌, inl, inr, nat_eq, IfSome, IsSomeAnd, arith}
use Rattle.std.specs.Prelude.{◌==◌, is_some, option_map, IsErr, MatchResult, IfErr}
use Rattle.std.specs.List.{list_any}
use Rattle.std.proofs.lemmas.List.Kept.{AllPairs-from_increasing}
use Rattle.unit_id.specs.Lists.{IsIn}
use Rattle.unit_id.specs.UnitName.{Name, IsName, packed}
use Rattle.unit_id.specs.Place.{Place, is_place}
use Rattle.unit_id.specs.Messages.{place_at}
use Rattle.unit_id.specs.declared.answer.Answer as answered
use Rattle.unit_id.specs.declared.answer.Answer.TheVariants as answers
use Rattle.unit_id.proofs.Bools.{or_left, or_right, same_number, equal_test}
use Rattle.unit_id.proofs.Places.{same_place, is_place_gives, is_place_self}
use Rattle.unit_id.proofs.Membership.{any_gives, gives_any}
use Rattle.disk_base.specs.Disk.{FileView, IsFile, AtEachMoment, Lasts}
use Rattle.disk_base.specs.Moments.{at_start, joined}
use Rattle.disk_base.specs.Faults.{Rose}
use Rattle.disk_base.specs.JointMoments.{leaves_by, LeavesAt}
use Rattle.disk_base.specs.Shelves.{ShelfView}
use Rattle.disk_base.specs.declared.fault.NoMemory.{NoMemory}
use Rattle.shard_record.specs.declared.record.ShardRecord.{ShardRecord}
use Rattle.chunk_store.specs.Chunk.{ChunkView, shown, ChunkCall, CountsFault as CountsChunk}
use Rattle.chunk_store.specs.Kept.{shut_after}
use Rattle.chunk_store.specs.declared.fault.ChunkFault.{ChunkFault}
use Rattle.chunk_store.specs.declared.fault.ChunkFault.TheVariants as faults
use Rattle.blob_node.specs.Units.{UnitRecord, Units, with_at}
use Rattle.blob_node.specs.UnitAnswer.{AreAscending, settled, settled_at}
use Rattle.blob_node.specs.Holding.{Written, Says, Holds, IsNew, without_bytes}
use Rattle.blob_node.specs.HeldUnit.{UnitOver, Held, Restarted as StartedOne, StartsBy, StartsThrough, IsStartRefusal, Refused, Gives, of_unit, written_settled, record_of_doubt, is_released}
use Rattle.blob_node.specs.declared.held_unit.Doubt.{Doubt}
use Rattle.blob_node.specs.declared.settled.Settled.{Settled}
use Rattle.blob_node.specs.UnitTable.{Entries, TableOver, at_word, unit_at, IsNamed, AreNamed, Replaces, StartsIn, Tells}
use Rattle.blob_node.specs.Starting.{noted, StartsNext, StartsEach, AreWords, StartsAll}
use Rattle.blob_node.specs.Station.{StationOver, name_at, StandsAt, Stands, Outlasts, faults_of, CountsFault, StationCall, units_settled, written_settled_by, AreInOrder, is_settled, all_open, all_shut, rack_of, LeavesRecords, CrashLeaves, IsClear, Restarts, IsKept, AreKept, Restarted}
use Rattle.blob_node.proofs.Lookups.{elsewhere, there_now}
use Rattle.blob_node.proofs.Holdings.{never_both, new_still}
use Rattle.blob_node.proofs.ListWork.{ascends, same_test}
use Rattle.blob_node.proofs.Settling.{crash_leaves}
use Rattle.blob_node.proofs.Tables.{named_at, name_by_word, none_of, some_set, named_set, at_set, eq_gives, eq_self}
use Rattle.blob_node.proofs.Standing.{SameAt, same_as_is, same_then, loosened, with_same, settled_elsewhere}
use Rattle.blob_node.proofs.Serving.{station_of, held_at, made_at, count_cases, call_counts, stands_then}
use Rattle.blob_node.proofs.Clearing.{clear_same}
use Rattle.blob_node.proofs.Crashes.{crash_none, crash_on}
use Rattle.blob_node.proofs.Lasting.{lasts_same, lasts_then, lasts_replaced}

-- ---- lists that grow at their end

in_last : {A : Type 0} (xs : List A) (x other : A) → IsIn other (xs ++ x ∷ []) → IsIn other xs ⊎ (other ≡ x)
in_last [] x other (inl e) = inr e
in_last [] x other (inr h) = absurd h
in_last (y ∷ ys) x other (inl e) = inl (inl e)
in_last (y ∷ ys) x other (inr h) = elim (in_last ys x other h) [
  | inl there ↦ inl (inr there)
  | inr here ↦ inr here
]

in_front : {A : Type 0} (xs : List A) (x other : A) → IsIn other xs → IsIn other (xs ++ x ∷ [])
in_front [] x other h = absurd h
in_front (y ∷ ys) x other (inl e) = inl e
in_front (y ∷ ys) x other (inr h) = inr (in_front ys x other h)

in_end : {A : Type 0} (xs : List A) (x : A) → IsIn x (xs ++ x ∷ [])
in_end [] x = inl refl
in_end (y ∷ ys) x = inr (in_end ys x)

settled_last : (disk : ℕ) (items : List Settled) (item : Settled) (units : Units) → units_settled disk (items ++ item ∷ []) units ≡ settled (place_at item.unit disk) item.found (units_settled disk items units)
settled_last disk [] item units = refl
settled_last disk (i ∷ is) item units = settled_last disk is item (settled (place_at i.unit disk) i.found units)

written_last : (disk : ℕ) (items : List Settled) (item : Settled) (written : Place → Written)
    → written_settled_by disk (items ++ item ∷ []) written ≡ with_at (place_at item.unit disk) (written_settled item.found (written_settled_by disk items written (place_at item.unit disk))) (written_settled_by disk items written)
written_last disk [] item written = refl
written_last disk (i ∷ is) item written = written_last disk is item (with_at (place_at i.unit disk) (written_settled i.found (written (place_at i.unit disk))) written)

order_last : (items : List Settled) (item : Settled) → AreInOrder items → ((other : Settled) → IsIn other items → packed other.unit + 1 ≤ packed item.unit) → AreInOrder (items ++ item ∷ [])
order_last [] item order below = (λ other h. absurd h, tt)
order_last (i ∷ is) item order below = (
  λ other h. elim (in_last is item other h) [
    | inl there ↦ order.0 other there
    | inr here ↦ subst (λ (x : Settled). packed i.unit + 1 ≤ packed x.unit) (sym here) (below i (inl refl))
  ],
  order_last is item order.1 (λ other h. below other (inr h)),
)

settled_in : (disk : ℕ) (place : Place) (items : List Settled) (item : Settled) → IsIn item items → place_at item.unit disk ≡ place → is_settled disk place items ≡ true
settled_in disk place items item h same =
    gives_any (λ (other : Settled). is_place (place_at other.unit disk) place) items item h (ap (λ p. is_place p place) same ∙ is_place_self place)

settled_more : (disk : ℕ) (place : Place) (items : List Settled) (item : Settled) → is_settled disk place items ≡ true → is_settled disk place (items ++ item ∷ []) ≡ true
settled_more disk place items item some =
    let w = any_gives (λ (other : Settled). is_place (place_at other.unit disk) place) items some in
    settled_in disk place (items ++ item ∷ []) w.0 (in_front items item w.0 w.1) (is_place_gives (place_at w.0.unit disk) place w.2)

units_elsewhere : (disk : ℕ) (items : List Settled) (units : Units) (q : Place) → ((item : Settled) → IsIn item items → q ≡ place_at item.unit disk → ⊥) → SameAt (units_settled disk items units) units q
units_elsewhere disk [] units q apart = same_as_is units q
units_elsewhere disk (i ∷ is) units q apart =
    same_then _ _ _ q (units_elsewhere disk is (settled (place_at i.unit disk) i.found units) q (λ item h. apart item (inr h)))
    (settled_elsewhere (place_at i.unit disk) q (apart i (inl refl)) i.found units)

written_elsewhere : (disk : ℕ) (items : List Settled) (written : Place → Written) (q : Place) → ((item : Settled) → IsIn item items → q ≡ place_at item.unit disk → ⊥) → written_settled_by disk items written q ≡ written q
written_elsewhere disk [] written q apart = refl
written_elsewhere disk (i ∷ is) written q apart =
    written_elsewhere disk is (with_at (place_at i.unit disk) (written_settled i.found (written (place_at i.unit disk))) written) q (λ item h. apart item (inr h))
    ∙ elsewhere (place_at i.unit disk) (written_settled i.found (written (place_at i.unit disk))) written q (apart i (inl refl))

-- ---- what a start told

ok_of : {F : Type 0} (was : UnitOver F) (started : Result Bool ChunkFault) (told : Option Settled) → Tells was started (Ok told)
    → (found : Bool) × (started ≡ Ok found) × (told ≡ option_map (λ _. record { unit = was.chunk.unit; found = found }) was.doubt)
ok_of was (Ok found) told is = (found, refl, is)
ok_of was (Err why) told is = absurd is

err_of : {F : Type 0} (was : UnitOver F) (started : Result Bool ChunkFault) (fault : ChunkFault) → Tells was started (Err fault) → started ≡ Err fault
err_of was (Ok found) why is = absurd is
err_of was (Err other) why is = ap Err is

no_doubt : (o : Option ShardRecord) → option_map without_bytes o ≡ None → o ≡ None
no_doubt None e = refl
no_doubt (Some item) e = cc

-- a chunk that is open stands for the same, whatever counts as shut
open_holds : (chunk : ChunkView) (doubt : Option UnitRecord) (flag : Bool) (written : Written) (units : Units) (q : Place) (shut : Place → Bool) → chunk.is_shut ≡ false → Holds chunk doubt flag written units q
    → Holds chunk doubt flag written (record units { is_shut = shut }) q
open_holds chunk doubt flag written units q shut open_ holds = record {
  made = holds.made;
  rows_are = holds.rows_are;
  shut = λ s. absurd (never_both chunk.is_shut open_ s);
  released = holds.released;
  doubted = holds.doubted;
  doubt_is = holds.doubt_is;
  new = still doubt holds.new;
  file = holds.file;
}
  where
    still : (d : Option UnitRecord) → IfSome d (λ r. IsNew r units q × (units.is_released q ≡ false)) → IfSome d (λ r. IsNew r (record units { is_shut = shut }) q × (units.is_released q ≡ false))
    still None h = tt
    still (Some r) h = (new_still r units q shut units.doubt h.0, h.1)

-- more chunks count as shut
same_shut : (units : Units) (q : Place) (shut : Place → Bool) → (units.is_shut q ≡ true → shut q ≡ true) → SameAt (record units { is_shut = shut }) units q
same_shut units q shut more = record { made = refl; row = refl; fence = refl; released = refl; doubt = refl; shut = more }

rise_more : (a b c : ℕ) → a ≤ b → Rose b c → Rose a c
rise_more a b c more rose = omega (arith, more, rose)

-- a fault is answered only where the file's count rose
rises_fault : (fault : ChunkFault) (answer : Result answered.Answer NoMemory) (before now : ℕ) → IsStartRefusal fault → Refused fault answer → CountsChunk {T = Bool} before now (Err fault) → answer ≡ Ok answers.Fault → Rose before now
rises_fault faults.Fault answer before now named refused counts is = counts
rises_fault faults.Shut answer before now named refused counts is = absurd named
rises_fault (faults.Damaged kept computed) answer before now named refused counts is = absurd (cc (sym refused ∙ is))
rises_fault (faults.Spoiled place) answer before now named refused counts is = absurd (cc (sym refused ∙ is))
rises_fault (faults.Full end) answer before now named refused counts is = absurd named
rises_fault faults.NotMarked answer before now named refused counts is = absurd named
rises_fault (faults.Fenced lock) answer before now named refused counts is = absurd named
rises_fault faults.Memory answer before now named refused counts is = absurd (not_err (subst (λ r. IsErr {T = answered.Answer} {E = NoMemory} r) is refused))
  where
    not_err : IsErr {T = answered.Answer} {E = NoMemory} (Ok answers.Fault) → ⊥
    not_err h = cc

-- ---- a restart up to some word

module _ {H F : Type 0} (shelf_seen : H → ShelfView F) (seen : F → FileView) (shelf : H) (disk : ℕ) (first : TableOver F) (is_file : (f : F) → IsFile (seen f)) where
  abbrev standing : TableOver F → StationOver H F
  standing table = station_of shelf disk false table

  -- the units of these words are still to be started, and these records are settled
  pub record Settles (cur : TableOver F) (rest : List ℕ) (items : List Settled) : Type 0 where
    pub vid : cur.vid ≡ first.vid
    pub named : AreNamed cur.vid cur.units
    pub words : (word : ℕ) → is_some (at_word word cur.units) ≡ is_some (at_word word first.units)
    pub lasts : Outlasts shelf_seen seen (standing first) (standing cur)
    pub opened : (word : ℕ) (unit : UnitOver F) → at_word word cur.units ≡ Some unit → IsIn word rest ⊎ (unit.chunk.is_shut ≡ false)
    pub before : (item : Settled) → IsIn item items → (word : ℕ) → IsIn word rest → packed item.unit + 1 ≤ word
    pub own : (item : Settled) → IsIn item items → item.unit.vid ≡ first.vid
    pub order : AreInOrder items
    pub stands : (written : Place → Written) (units : Units) → Stands shelf_seen seen (standing first) written units → Stands shelf_seen seen (standing cur) (written_settled_by disk items written) (units_settled disk items units)
    pub in_doubt : (written : Place → Written) (units : Units) → Stands shelf_seen seen (standing first) written units → (item : Settled) → IsIn item items → is_some (units.doubt (place_at item.unit disk)) ≡ true
    pub kept : (written : Place → Written) (units : Units) → Stands shelf_seen seen (standing first) written units → AreKept shelf_seen seen written (standing first) (standing cur)
    pub moments : (written : Place → Written) (units : Units) → Stands shelf_seen seen (standing first) written units → CrashLeaves shelf_seen seen (standing first) (standing cur) (LeavesRecords shelf_seen seen written (standing first))
    pub all : (written : Place → Written) (units : Units) → Stands shelf_seen seen (standing first) written units → (q : Place) → q.disk ≡ disk → is_some (units.doubt q) ≡ true → IsIn (packed (name_at first.vid q)) rest ⊎ (is_settled disk q items ≡ true)

  -- a unit with a record in doubt was made
  doubt_made : (written : Place → Written) (units : Units) → Stands shelf_seen seen (standing first) written units → (q : Place) → q.disk ≡ disk → is_some (units.doubt q) ≡ true → units.is_made q ≡ true
  doubt_made written units stands q at some = go (units.is_made q) refl where
    go : (b : Bool) → units.is_made q ≡ b → units.is_made q ≡ true
    go true e = e
    go false e = absurd (never_both (is_some (units.doubt q)) (ap is_some (stands.bare q at e).settled_) some)

  -- the unit of a word stands for its place
  unit_held : (table : TableOver F) → AreNamed table.vid table.units → (written : Place → Written) (units : Units) → Stands shelf_seen seen (standing table) written units → (word : ℕ) (unit : UnitOver F) → at_word word table.units ≡ Some unit
      → Held seen unit (written (place_at unit.chunk.unit disk)) units (place_at unit.chunk.unit disk)
  unit_held table named written units stands word unit found =
      let is = named_at table.vid table.units word unit named found in
      let own : name_at table.vid (place_at unit.chunk.unit disk) ≡ unit.chunk.unit = λ i. record { vid = sym is.vid_is i; index = unit.chunk.unit.index; epoch = unit.chunk.unit.epoch } in
      held_at shelf_seen seen (standing table) written units stands (place_at unit.chunk.unit disk) unit refl (subst IsName (sym own) is.name)
      (ap (λ w. at_word w table.units) (sym (is.word_is ∙ ap packed (sym own))) ∙ found)

  -- ---- one start more

  module _ (cur next : TableOver F) (word : ℕ) (was now : UnitOver F) (replaces : Replaces word cur next was now) (rest : List ℕ) (items : List Settled) (s : Settles cur (word ∷ rest) items) (ascend : (n : ℕ) → IsIn n rest → word < n) where
    its : IsNamed cur.vid word was
    its = named_at cur.vid cur.units word was s.named replaces.found

    abbrev place : Place
    place = place_at was.chunk.unit disk

    named_is : name_at cur.vid place ≡ was.chunk.unit
    named_is = λ i. record { vid = sym its.vid_is i; index = was.chunk.unit.index; epoch = was.chunk.unit.epoch }

    word_is : word ≡ packed (name_at cur.vid place)
    word_is = its.word_is ∙ ap packed (sym named_is)

    place_name : IsName (name_at cur.vid place)
    place_name = subst IsName (sym named_is) its.name

    held : (written : Place → Written) (units : Units) → Stands shelf_seen seen (standing cur) written units → Held seen was (written place) units place
    held written units stands = held_at shelf_seen seen (standing cur) written units stands place was refl place_name (ap (λ w. at_word w cur.units) (sym word_is) ∙ replaces.found)

    goes : (written : Place → Written) (units then : Units) → Stands shelf_seen seen (standing cur) written units → (w : Written) → Held seen now w then place → ((q : Place) → (q ≡ place → ⊥) → SameAt then units q) → Stands shelf_seen seen (standing next) (with_at place w written) then
    goes written units then stands = stands_then shelf_seen seen shelf disk false cur next word was now replaces written units then stands place refl place_name word_is

    -- what was written stays
    goes_same : (written : Place → Written) (units then : Units) → Stands shelf_seen seen (standing cur) written units → Held seen now (written place) then place → ((q : Place) → (q ≡ place → ⊥) → SameAt then units q) → Stands shelf_seen seen (standing next) written then
    goes_same written units then stands held_ others =
        subst (λ w. Stands shelf_seen seen (standing next) w then) (with_same place written) (goes written units then stands (written place) held_ others)

    next_words : (other : ℕ) → is_some (at_word other next.units) ≡ is_some (at_word other first.units)
    next_words other = ap (λ (es : Entries F). is_some (at_word other es)) replaces.units ∙ some_set cur.units word was now replaces.found other ∙ s.words other

    next_named : AreNamed next.vid next.units
    next_named = subst (λ v. AreNamed v next.units) (sym replaces.vid) (subst (λ (es : Entries F). AreNamed cur.vid es) (sym replaces.units) (named_set cur.vid cur.units word was now replaces.found replaces.unit s.named))

    next_opened : now.chunk.is_shut ≡ false → (other : ℕ) (unit : UnitOver F) → at_word other next.units ≡ Some unit → IsIn other rest ⊎ (unit.chunk.is_shut ≡ false)
    next_opened open_ other unit found =
        go (nat_eq word other) refl (sym (ap (at_word other) replaces.units ∙ at_set cur.units word was now replaces.found other) ∙ found)
      where
        one : Some now ≡ Some unit → now ≡ unit
        one h = cc

        by : nat_eq word other ≡ false → IsIn other (word ∷ rest) ⊎ (unit.chunk.is_shut ≡ false) → IsIn other rest ⊎ (unit.chunk.is_shut ≡ false)
        by e (inl (inl same)) = absurd (never_both (nat_eq word other) e (ap (nat_eq word) same ∙ eq_self word))
        by e (inl (inr there)) = inl there
        by e (inr is) = inr is

        go : (b : Bool) → nat_eq word other ≡ b → cond b (Some now) (at_word other cur.units) ≡ Some unit → IsIn other rest ⊎ (unit.chunk.is_shut ≡ false)
        go true e h = inr (ap (λ (u : UnitOver F). u.chunk.is_shut) (sym (one h)) ∙ open_)
        go false e h = by e (s.opened other unit h)

    next_lasts : Lasts (seen was.chunk.log.file) (seen now.chunk.log.file) → Outlasts shelf_seen seen (standing first) (standing next)
    next_lasts file = lasts_then shelf_seen seen (standing first) (standing cur) (standing next) s.lasts (lasts_replaced shelf_seen seen shelf disk false cur next word was now replaces file)

    -- no record of this unit was settled before
    apart : (item : Settled) → IsIn item items → place ≡ place_at item.unit disk → ⊥
    apart item h same =
        let less = s.before item h word (inl refl) in
        let one : was.chunk.unit ≡ item.unit = λ i. record { vid = (its.vid_is ∙ s.vid ∙ sym (s.own item h)) i; index = (same i).index; epoch = (same i).epoch } in
        let both : word ≡ packed item.unit = its.word_is ∙ ap packed one in
        omega (arith, less, both)

    known_before : (units : Units) → (units_settled disk items units).doubt place ≡ units.doubt place
    known_before units = (units_elsewhere disk items units place apart).doubt

    -- the place of a name with this word
    here : (q : Place) → q.disk ≡ disk → IsName (name_at first.vid q) → packed (name_at first.vid q) ≡ word → place ≡ q
    here q at name same =
        let one = name_by_word (name_at first.vid q) name cur.vid word was its (sym same) in
        same_place place q (ap (λ (n : Name). n.index) one) (ap (λ (n : Name). n.epoch) one) (sym at)

    -- what a crash leaves of each file until then
    next_kept : StartsThrough seen was now → (written : Place → Written) (units : Units) → Stands shelf_seen seen (standing first) written units → AreKept shelf_seen seen written (standing first) (standing next)
    next_kept through written units stands = λ other unit found.
        let so_far = s.kept written units stands other unit found in
        go other unit so_far (nat_eq word other) refl (ap (at_word other) replaces.units ∙ at_set cur.units word was now replaces.found other)
      where
        one : (x y : UnitOver F) → Some x ≡ Some y → x ≡ y
        one x y h = cc

        moved : (unit mid : UnitOver F) → was ≡ mid → mid.chunk.unit ≡ unit.chunk.unit → AtEachMoment (seen unit.chunk.log.file) (seen mid.chunk.log.file) (Says unit.chunk.unit (written (place_at unit.chunk.unit disk)).items (written (place_at unit.chunk.unit disk)).doubt)
            → AtEachMoment (seen unit.chunk.log.file) (seen now.chunk.log.file) (Says unit.chunk.unit (written (place_at unit.chunk.unit disk)).items (written (place_at unit.chunk.unit disk)).doubt)
        moved unit mid same own before =
            let named_as : was.chunk.unit ≡ unit.chunk.unit = ap (λ (u : UnitOver F). u.chunk.unit) same ∙ own in
            let step = through (written_settled_by disk items written place) (units_settled disk items units) place (held (written_settled_by disk items written) (units_settled disk items units) (s.stands written units stands)) in
            let as_written = subst (λ (w : Written). AtEachMoment (seen was.chunk.log.file) (seen now.chunk.log.file) (Says was.chunk.unit w.items w.doubt)) (written_elsewhere disk items written place apart) step in
            joined (Says unit.chunk.unit (written (place_at unit.chunk.unit disk)).items (written (place_at unit.chunk.unit disk)).doubt) (seen unit.chunk.log.file) (seen mid.chunk.log.file) (seen now.chunk.log.file) before
            (subst (λ (u : UnitOver F). AtEachMoment (seen u.chunk.log.file) (seen now.chunk.log.file) (Says unit.chunk.unit (written (place_at unit.chunk.unit disk)).items (written (place_at unit.chunk.unit disk)).doubt)) same
            (subst (λ (n : Name). AtEachMoment (seen was.chunk.log.file) (seen now.chunk.log.file) (Says n (written (place_at n disk)).items (written (place_at n disk)).doubt)) named_as as_written))

        go : (other : ℕ) (unit : UnitOver F) (so_far : IsKept shelf_seen seen (written (place_at unit.chunk.unit disk)) other unit (standing cur)) (b : Bool) → nat_eq word other ≡ b → at_word other next.units ≡ cond b (Some now) (at_word other cur.units)
            → IsKept shelf_seen seen (written (place_at unit.chunk.unit disk)) other unit (standing next)
        go other unit so_far true e at =
            let same = one was so_far.now (sym replaces.found ∙ ap (λ w. at_word w cur.units) (eq_gives word other e) ∙ so_far.found) in
            record { now = now; found = at; unit = replaces.unit ∙ ap (λ (u : UnitOver F). u.chunk.unit) same ∙ so_far.unit; moments = moved unit so_far.now same so_far.unit so_far.moments }
        go other unit so_far false e at = record { now = so_far.now; found = at ∙ so_far.found; unit = so_far.unit; moments = so_far.moments }

    -- the unit of a name, as it stands now
    now_named : (q : Place) → IsName (name_at first.vid q) → (unit mid : UnitOver F) → at_word (packed (name_at first.vid q)) cur.units ≡ Some mid → mid.chunk.unit ≡ unit.chunk.unit → q.disk ≡ disk → place_at unit.chunk.unit disk ≡ q
    now_named q named unit mid found own at =
        let is = named_at cur.vid cur.units (packed (name_at first.vid q)) mid s.named found in
        let one = sym own ∙ name_by_word (name_at first.vid q) named cur.vid (packed (name_at first.vid q)) mid is refl in
        same_place (place_at unit.chunk.unit disk) q (ap (λ (n : Name). n.index) one) (ap (λ (n : Name). n.epoch) one) (sym at)

    -- each unit's file has its records up to here
    kept_at : (written : Place → Written) (units : Units) → Stands shelf_seen seen (standing first) written units → (q : Place) → q.disk ≡ disk → IsName (name_at first.vid q) → (o : Option (UnitOver F)) → at_word (packed (name_at first.vid q)) first.units ≡ o → (x : Option (List ℕ))
        → LeavesAt shelf_seen seen (rack_of (standing cur)) (packed (name_at first.vid q)) x → LeavesRecords shelf_seen seen written (standing first) q o x
    kept_at written units stands q at named None e x left =
        let none = none_of (at_word (packed (name_at first.vid q)) cur.units) (s.words (packed (name_at first.vid q)) ∙ ap is_some e) in
        subst (λ (o : Option (UnitOver F)). leaves_by shelf_seen seen (option_map (λ (u : UnitOver F). u.chunk.log.file) o) shelf (packed (name_at first.vid q)) x) none left
    kept_at written units stands q at named (Some unit) e x left =
        let k = s.kept written units stands (packed (name_at first.vid q)) unit e in
        by k x (subst (λ (o : Option (UnitOver F)). leaves_by shelf_seen seen (option_map (λ (u : UnitOver F). u.chunk.log.file) o) shelf (packed (name_at first.vid q)) x) k.found left)
      where
        by : (k : IsKept shelf_seen seen (written (place_at unit.chunk.unit disk)) (packed (name_at first.vid q)) unit (standing cur)) (x : Option (List ℕ)) → IsSomeAnd x (seen k.now.chunk.log.file).images → IsSomeAnd x (Says unit.chunk.unit (written q).items (written q).doubt)
        by k None left = absurd left
        by k (Some bytes) left =
            subst (λ (p : Place). Says unit.chunk.unit (written p).items (written p).doubt bytes) (now_named q named unit k.now k.found k.unit at)
            (k.moments.each bytes ((is_file k.now.chunk.log.file).present_counts (seen unit.chunk.log.file).clock bytes k.moments.never_falls left))

    next_moments : StartsThrough seen was now → (written : Place → Written) (units : Units) → Stands shelf_seen seen (standing first) written units → CrashLeaves shelf_seen seen (standing first) (standing next) (LeavesRecords shelf_seen seen written (standing first))
    next_moments through written units stands =
        crash_on shelf_seen seen shelf disk false cur next word was now replaces (is_file now.chunk.log.file) (standing first) (LeavesRecords shelf_seen seen written (standing first)) place refl (subst (λ v. IsName (name_at v place)) s.vid place_name)
        (word_is ∙ ap (λ v. packed (name_at v place)) s.vid) step.never_falls (λ x left. here_now x left (unit_at first.units (name_at first.vid place)) refl)
        (λ q at named x left. kept_at written units stands q at named (unit_at first.units (name_at first.vid q)) refl x left) (s.moments written units stands)
      where
        step : AtEachMoment (seen was.chunk.log.file) (seen now.chunk.log.file) (Says was.chunk.unit (written place).items (written place).doubt)
        step = subst (λ (w : Written). AtEachMoment (seen was.chunk.log.file) (seen now.chunk.log.file) (Says was.chunk.unit w.items w.doubt)) (written_elsewhere disk items written place apart)
            (through (written_settled_by disk items written place) (units_settled disk items units) place (held (written_settled_by disk items written) (units_settled disk items units) (s.stands written units stands)))

        same_word : packed (name_at first.vid place) ≡ word
        same_word = sym (word_is ∙ ap (λ v. packed (name_at v place)) s.vid)

        one : (x y : UnitOver F) → Some x ≡ Some y → x ≡ y
        one x y h = cc

        here_now : (x : Option (List ℕ)) → IsSomeAnd x ((seen now.chunk.log.file).images_since (seen was.chunk.log.file).clock) → (o : Option (UnitOver F)) → unit_at first.units (name_at first.vid place) ≡ o → LeavesRecords shelf_seen seen written (standing first) place o x
        here_now None left o e = absurd left
        here_now (Some bytes) left None e =
            absurd (never_both (is_some (at_word word cur.units)) (s.words word ∙ ap (λ w. is_some (at_word w first.units)) (sym same_word) ∙ ap is_some e) (ap is_some replaces.found))
        here_now (Some bytes) left (Some unit) e =
            let k = s.kept written units stands (packed (name_at first.vid place)) unit e in
            let same = one k.now was (sym k.found ∙ ap (λ w. at_word w cur.units) same_word ∙ replaces.found) in
            subst (λ (n : Name). Says n (written place).items (written place).doubt bytes) (sym (ap (λ (u : UnitOver F). u.chunk.unit) same) ∙ k.unit) (step.each bytes left)

    module _ (through : StartsThrough seen was now) (found : Bool) (open_ : now.chunk.is_shut ≡ false) (lasts : Lasts (seen was.chunk.log.file) (seen now.chunk.log.file)) (starts : (written : Written) (units : Units) (p : Place) → Held seen was written units p → StartsBy seen written units p now (Ok found)) where
      -- nothing was in doubt
      quiet : (f : Bool) (written : Written) (units : Units) → Held seen now (written_settled f written) (settled place f units) place × (f ≡ true → is_some (units.doubt place) ≡ true) → written.doubt ≡ None → units.doubt place ≡ None → Held seen now written units place
      quiet true written units is none_written none = absurd (never_both (is_some (units.doubt place)) (ap is_some none) (is.1 refl))
      quiet false written units is none_written none =
          subst (λ (w : Written). Held seen now w units place) (λ i. record { items = written.items; doubt = sym none_written i })
          (loosened (shown seen now.chunk) (option_map record_of_doubt now.doubt) (is_released now) (written_settled false written) units (settled_at place units) place
          (record {
            made = refl;
            row = refl;
            fence = refl;
            released = refl;
            doubt = none ∙ sym (there_now place None units.doubt);
            shut = λ t. absurd (never_both (with_at place false units.is_shut place) (there_now place false units.is_shut) t);
          }) is.0)

      settles_none : was.doubt ≡ None → Settles next rest items
      settles_none none = record {
        vid = replaces.vid ∙ s.vid;
        named = next_named;
        words = next_words;
        lasts = next_lasts lasts;
        opened = next_opened open_;
        before = λ item h w there. s.before item h w (inr there);
        own = s.own;
        order = s.order;
        stands = λ written units stands.
            let is = s.stands written units stands in
            let was_held = held (written_settled_by disk items written) (units_settled disk items units) is in
            goes_same (written_settled_by disk items written) (units_settled disk items units) (units_settled disk items units) is
            (quiet found (written_settled_by disk items written place) (units_settled disk items units) (starts (written_settled_by disk items written place) (units_settled disk items units) place was_held)
            (no_doubt (written_settled_by disk items written place).doubt (was_held.doubt_is ∙ ap (option_map record_of_doubt) none)) (was_held.doubted ∙ ap (option_map record_of_doubt) none))
            (λ q ne. same_as_is (units_settled disk items units) q);
        in_doubt = s.in_doubt;
        kept = next_kept through;
        moments = next_moments through;
        all = λ written units stands q at some. by written units stands q at some (s.all written units stands q at some);
      }
        where
          by : (written : Place → Written) (units : Units) → Stands shelf_seen seen (standing first) written units → (q : Place) → q.disk ≡ disk → is_some (units.doubt q) ≡ true → IsIn (packed (name_at first.vid q)) (word ∷ rest) ⊎ (is_settled disk q items ≡ true)
              → IsIn (packed (name_at first.vid q)) rest ⊎ (is_settled disk q items ≡ true)
          by written units stands q at some (inl (inl same)) =
              let is = s.stands written units stands in
              let was_held = held (written_settled_by disk items written) (units_settled disk items units) is in
              let same_q = here q at (stands.named q at (doubt_made written units stands q at some)) same in
              absurd (never_both (is_some (units.doubt q)) (ap (λ p. is_some (units.doubt p)) (sym same_q) ∙ ap is_some (sym (known_before units) ∙ was_held.doubted ∙ ap (option_map record_of_doubt) none)) some)
          by written units stands q at some (inl (inr there)) = inl there
          by written units stands q at some (inr is) = inr is

      abbrev item : Settled
      item = record { unit = was.chunk.unit; found = found }

      settles_some : (d : Doubt) → was.doubt ≡ Some d → Settles next rest (items ++ item ∷ [])
      settles_some d doubted = record {
        vid = replaces.vid ∙ s.vid;
        named = next_named;
        words = next_words;
        lasts = next_lasts lasts;
        opened = next_opened open_;
        before = λ other h w there. elim (in_last items item other h) [
          | inl old ↦ s.before other old w (inr there)
          | inr new ↦ subst (λ (x : Settled). packed x.unit + 1 ≤ w) (sym new) (let less = ascend w there in let is = its.word_is in omega (arith, less, is))
        ];
        own = λ other h. elim (in_last items item other h) [
          | inl old ↦ s.own other old
          | inr new ↦ ap (λ (x : Settled). x.unit.vid) new ∙ its.vid_is ∙ s.vid
        ];
        order = order_last items item s.order (λ other h. let less = s.before other h word (inl refl) in let is = its.word_is in omega (arith, less, is));
        stands = λ written units stands.
            let is = s.stands written units stands in
            let was_held = held (written_settled_by disk items written) (units_settled disk items units) is in
            subst (λ w. Stands shelf_seen seen (standing next) w (units_settled disk (items ++ item ∷ []) units)) (sym (written_last disk items item written))
            (subst (λ u. Stands shelf_seen seen (standing next) (with_at place (written_settled found (written_settled_by disk items written place)) (written_settled_by disk items written)) u) (sym (settled_last disk items item units))
            (goes (written_settled_by disk items written) (units_settled disk items units) (settled place found (units_settled disk items units)) is
            (written_settled found (written_settled_by disk items written place)) (starts (written_settled_by disk items written place) (units_settled disk items units) place was_held).0
            (λ q ne. settled_elsewhere place q ne found (units_settled disk items units))));
        in_doubt = λ written units stands other h. elim (in_last items item other h) [
          | inl old ↦ s.in_doubt written units stands other old
          | inr new ↦
              let was_held = held (written_settled_by disk items written) (units_settled disk items units) (s.stands written units stands) in
              ap (λ (x : Settled). is_some (units.doubt (place_at x.unit disk))) new ∙ ap is_some (sym (known_before units) ∙ was_held.doubted ∙ ap (option_map record_of_doubt) doubted)
        ];
        kept = next_kept through;
        moments = next_moments through;
        all = λ written units stands q at some. by written units stands q at some (s.all written units stands q at some);
      }
        where
          by : (written : Place → Written) (units : Units) → Stands shelf_seen seen (standing first) written units → (q : Place) → q.disk ≡ disk → is_some (units.doubt q) ≡ true → IsIn (packed (name_at first.vid q)) (word ∷ rest) ⊎ (is_settled disk q items ≡ true)
              → IsIn (packed (name_at first.vid q)) rest ⊎ (is_settled disk q (items ++ item ∷ []) ≡ true)
          by written units stands q at some (inl (inl same)) = inr (settled_in disk q (items ++ item ∷ []) item (in_end items item) (here q at (stands.named q at (doubt_made written units stands q at some)) same))
          by written units stands q at some (inl (inr there)) = inl there
          by written units stands q at some (inr is) = inr (settled_more disk q items item is)

      settles_by : (d : Option Doubt) → was.doubt ≡ d → Settles next rest (noted items (option_map (λ _. item) d))
      settles_by None e = settles_none e
      settles_by (Some d) e = settles_some d e

    -- ---- a start that gives up

    module _ (fault : ChunkFault) (shut : now.chunk.is_shut ≡ shut_after fault was.chunk.is_shut) (starts : (written : Written) (units : Units) (p : Place) → Held seen was written units p → StartsBy seen written units p now (Err fault)) where
      -- the chunk stands for the same where it may be shut
      pub still_shut : (written : Written) (units : Units) (then : Place → Bool) → Held seen was written units place → (now.chunk.is_shut ≡ true → then place ≡ true) → Held seen now written (record units { is_shut = then }) place
      still_shut written units then was_held more =
          loosened (shown seen now.chunk) (option_map record_of_doubt now.doubt) (is_released now) written (record units { is_shut = then }) (record units { is_shut = with_at place now.chunk.is_shut units.is_shut }) place
          (record { made = refl; row = refl; fence = refl; released = refl; doubt = refl; shut = λ t. more (sym (there_now place now.chunk.is_shut units.is_shut) ∙ t) })
          (starts written units place was_held).1

      pub stands_shut : (written : Place → Written) (units : Units) → Stands shelf_seen seen (standing cur) written units → Stands shelf_seen seen (standing next) written (all_shut disk units)
      stands_shut written units stands =
          goes_same written units (all_shut disk units) stands
          (still_shut (written place) units (all_shut disk units).is_shut (held written units stands) (λ _. or_left (disk == disk) (units.is_shut place) (equal_test disk disk refl)))
          (λ q ne. same_shut units q (all_shut disk units).is_shut (λ t. or_right (q.disk == disk) (units.is_shut q) t))

      pub stands_still : fault ≡ faults.Memory → (written : Place → Written) (units : Units) → Stands shelf_seen seen (standing cur) written units → Stands shelf_seen seen (standing next) written units
      stands_still memory written units stands =
          goes_same written units units stands
          (still_shut (written place) units units.is_shut (held written units stands) (λ t. (held written units stands).shut (sym (shut ∙ ap (λ f. shut_after f was.chunk.is_shut) memory) ∙ t)))
          (λ q ne. same_as_is units q)

  -- ---- the whole

  -- every chunk is open
  stands_open : (station : StationOver H F) (written : Place → Written) (units : Units) → ((word : ℕ) (unit : UnitOver F) → at_word word station.units ≡ Some unit → unit.chunk.is_shut ≡ false)
      → Stands shelf_seen seen station written units → Stands shelf_seen seen station written (all_open disk units)
  stands_open station written units opened stands = record {
    told = stands.told;
    named = stands.named;
    bare = λ q at none. record { unreleased = (stands.bare q at none).unreleased; settled_ = (stands.bare q at none).settled_ };
    each = λ q at name. go q (unit_at station.units (name_at station.vid q)) refl (stands.each q at name);
  }
    where
      go : (q : Place) (o : Option (UnitOver F)) → unit_at station.units (name_at station.vid q) ≡ o → StandsAt shelf_seen seen station written units q o → StandsAt shelf_seen seen station written (all_open disk units) q o
      go q (Some unit) e held_ =
          open_holds (shown seen unit.chunk) (option_map record_of_doubt unit.doubt) (is_released unit) (written q) units q (all_open disk units).is_shut (opened (packed (name_at station.vid q)) unit e) held_
      go q None e none = none

  -- what a crash leaves at each moment of the restart
  abbrev Throughout : (Place → Written) → TableOver F → Type 0
  Throughout written new = CrashLeaves shelf_seen seen (standing first) (standing new) (LeavesRecords shelf_seen seen written (standing first))

  -- what a restart with this answer leaves
  abbrev Leads : (Place → Written) → Units → List Settled → Result answered.Answer NoMemory → TableOver F → Type 0
  Leads written units items answer new =
      Restarts shelf_seen seen written units items answer (standing new) × AreKept shelf_seen seen written (standing first) (standing new) × Throughout written new
      × (IsClear shelf_seen seen (standing first) → IsClear shelf_seen seen (standing new))

  still_clear : (new : TableOver F) → new.vid ≡ first.vid → ((word : ℕ) → is_some (at_word word new.units) ≡ is_some (at_word word first.units)) → IsClear shelf_seen seen (standing first) → IsClear shelf_seen seen (standing new)
  still_clear new vid words = clear_same shelf_seen seen (standing first) (standing new) vid refl words

  pub record Ends (new : TableOver F) (items : List Settled) (answer : Result answered.Answer NoMemory) : Type 0 where
    pub vid : new.vid ≡ first.vid
    pub words : (word : ℕ) → is_some (at_word word new.units) ≡ is_some (at_word word first.units)
    pub counts : CountsFault shelf_seen seen (standing first) (standing new) answer
    pub lasts : Outlasts shelf_seen seen (standing first) (standing new)
    pub told : (written : Place → Written) (units : Units) → Stands shelf_seen seen (standing first) written units → Leads written units items answer new

  all_done : (cur : TableOver F) (items : List Settled) → Settles cur [] items → Ends cur items (Ok answers.Done)
  all_done cur items s = record {
    vid = s.vid;
    words = s.words;
    counts = s.lasts.faults;
    lasts = s.lasts;
    told = λ written units stands. (
      record {
        restarts = (
          stands_open (standing cur) (written_settled_by disk items written) (units_settled disk items units) (λ word unit found. open_now (s.opened word unit found)) (s.stands written units stands),
          λ q at. same_bits (is_some (units.doubt q)) (is_settled disk q items) (λ some. settled_now (s.all written units stands q at some)) (λ some. was_doubted written units stands q some),
        );
        order = s.order;
        own = λ item h. s.own item h ∙ sym s.vid;
        in_doubt = s.in_doubt written units stands;
      },
      s.kept written units stands,
      s.moments written units stands,
      still_clear cur s.vid s.words,
    );
  }
    where
      open_now : {P : Type 0} → ⊥ ⊎ P → P
      open_now (inl h) = absurd h
      open_now (inr p) = p

      settled_now : {P : Type 0} → ⊥ ⊎ P → P
      settled_now = open_now

      same_bits : (a b : Bool) → (a ≡ true → b ≡ true) → (b ≡ true → a ≡ true) → a ≡ b
      same_bits true b up down = sym (up refl)
      same_bits false true up down = down refl
      same_bits false false up down = refl

      was_doubted : (written : Place → Written) (units : Units) → Stands shelf_seen seen (standing first) written units → (q : Place) → is_settled disk q items ≡ true → is_some (units.doubt q) ≡ true
      was_doubted written units stands q some =
          let w = any_gives (λ (other : Settled). is_place (place_at other.unit disk) q) items some in
          subst (λ p. is_some (units.doubt p) ≡ true) (is_place_gives (place_at w.0.unit disk) q w.2) (s.in_doubt written units stands w.0 w.1)

  -- want of memory
  no_memory : (cur new : TableOver F) (rest : List ℕ) (items : List Settled) → Settles cur rest items → new.vid ≡ cur.vid → ((word : ℕ) → is_some (at_word word new.units) ≡ is_some (at_word word first.units)) → Outlasts shelf_seen seen (standing first) (standing new)
      → ((written : Place → Written) (units : Units) → Stands shelf_seen seen (standing cur) written units → Stands shelf_seen seen (standing new) written units)
      → ((written : Place → Written) (units : Units) → Stands shelf_seen seen (standing first) written units → AreKept shelf_seen seen written (standing first) (standing new) × Throughout written new) → (answer : Result answered.Answer NoMemory) → IsErr answer → Ends new items answer
  no_memory cur new rest items s vid words lasts stands kept (Ok answer) is = absurd (not_err answer is)
    where
      not_err : (a : answered.Answer) → IsErr {T = answered.Answer} {E = NoMemory} (Ok a) → ⊥
      not_err a h = cc
  no_memory cur new rest items s vid words lasts stands kept (Err e) is = record {
    vid = vid ∙ s.vid;
    words = words;
    counts = lasts.faults;
    lasts = lasts;
    told = λ written units was. (
      record {
        restarts = stands (written_settled_by disk items written) (units_settled disk items units) (s.stands written units was);
        order = s.order;
        own = λ item h. s.own item h ∙ sym (vid ∙ s.vid);
        in_doubt = s.in_doubt written units was;
      },
      (kept written units was).0,
      (kept written units was).1,
      still_clear new (vid ∙ s.vid) words,
    );
  }

  module _ (cur next : TableOver F) (word : ℕ) (rest : List ℕ) (items : List Settled) (s : Settles cur (word ∷ rest) items) (ascend : (n : ℕ) → IsIn n rest → word < n) (fault : ChunkFault) (starts : StartsIn seen word cur next (Err fault))
      (answer : Result answered.Answer NoMemory) (refused : Refused fault answer) where
    abbrev was_ : UnitOver F
    was_ = starts.was

    abbrev now_ : UnitOver F
    now_ = starts.now

    abbrev replaces : Replaces word cur next was_ now_
    replaces = starts.replaces

    is : starts.starts.started ≡ Err fault
    is = err_of was_ starts.starts.started fault starts.starts.tells

    abbrev place_ : Place
    place_ = place cur next word was_ now_ replaces rest items s ascend

    held_ : (written : Place → Written) (units : Units) → Stands shelf_seen seen (standing cur) written units → Held seen was_ (written place_) units place_
    held_ = held cur next word was_ now_ replaces rest items s ascend

    starts_ : (written : Written) (units : Units) (p : Place) → Held seen was_ written units p → StartsBy seen written units p now_ (Err fault)
    starts_ = subst (λ r. StartedOne seen was_ now_ r) is starts.starts.restarted

    call_ : ChunkCall {T = Bool} (seen was_.chunk.log.file) (seen now_.chunk.log.file) (Err fault)
    call_ = subst (λ r. ChunkCall (seen was_.chunk.log.file) (seen now_.chunk.log.file) r) is starts.starts.call

    named_ : IsStartRefusal fault
    named_ = subst (λ r. IfErr r IsStartRefusal) is starts.starts.named

    shut_ : now_.chunk.is_shut ≡ shut_after fault was_.chunk.is_shut
    shut_ = subst (λ (r : Result Bool ChunkFault). MatchResult r (λ _. now_.chunk.is_shut ≡ false) (λ f. now_.chunk.is_shut ≡ shut_after f was_.chunk.is_shut)) is starts.starts.ends

    words_now : (other : ℕ) → is_some (at_word other next.units) ≡ is_some (at_word other first.units)
    words_now = next_words cur next word was_ now_ replaces rest items s ascend

    more : Outlasts shelf_seen seen (standing first) (standing next)
    more = next_lasts cur next word was_ now_ replaces rest items s ascend call_.lasts

    all_kept : (written : Place → Written) (units : Units) → Stands shelf_seen seen (standing first) written units → AreKept shelf_seen seen written (standing first) (standing next) × Throughout written next
    all_kept written units stands = (
      next_kept cur next word was_ now_ replaces rest items s ascend starts.starts.through written units stands,
      next_moments cur next word was_ now_ replaces rest items s ascend starts.starts.through written units stands,
    )

    rises : answer ≡ Ok answers.Fault → Rose (faults_of shelf_seen seen (standing cur)) (faults_of shelf_seen seen (standing next))
    rises e =
        subst (λ (r : Result answered.Answer NoMemory). CountsFault shelf_seen seen (standing cur) (standing next) r) e
        (call_counts shelf_seen seen shelf disk false cur next word was_ now_ replaces answer call_.lasts.faults
        (λ f. rises_fault fault answer (seen was_.chunk.log.file).faults (seen now_.chunk.log.file).faults named_ refused call_.counts f))

    by : (written : Place → Written) (units : Units) → Stands shelf_seen seen (standing first) written units → (fault ≡ faults.Fault) ⊎ (fault ≡ faults.Memory) → Leads written units items answer next
    by written units stands (inl e) = (
      subst (λ (r : Result answered.Answer NoMemory). Restarts shelf_seen seen written units items r (standing next)) (sym (subst (λ f. Refused f answer) e refused))
          (record {
            restarts = stands_shut cur next word was_ now_ replaces rest items s ascend fault shut_ starts_ (written_settled_by disk items written) (units_settled disk items units) (s.stands written units stands);
            order = s.order;
            own = λ item h. s.own item h ∙ sym (replaces.vid ∙ s.vid);
            in_doubt = s.in_doubt written units stands;
          }),
      (all_kept written units stands).0,
      (all_kept written units stands).1,
      still_clear next (replaces.vid ∙ s.vid) words_now,
    )
    by written units stands (inr e) =
        (no_memory cur next (word ∷ rest) items s replaces.vid words_now more
        (stands_still cur next word was_ now_ replaces rest items s ascend fault shut_ starts_ e) all_kept
        answer (subst (λ f. Refused f answer) e refused)).told written units stands

    gives_up : Ends next items answer
    gives_up = record {
      vid = replaces.vid ∙ s.vid;
      words = words_now;
      counts = count_cases shelf_seen seen (standing first) (standing next) answer more.faults (λ e. rise_more _ _ _ s.lasts.faults (rises e));
      lasts = more;
      told = λ written units stands. by written units stands (starts_ (written_settled_by disk items written place_) (units_settled disk items units) place_ (held_ (written_settled_by disk items written) (units_settled disk items units) (s.stands written units stands))).0;
    }

  goes_on : (cur next : TableOver F) (word : ℕ) (rest : List ℕ) (items : List Settled) → Settles cur (word ∷ rest) items → ((n : ℕ) → IsIn n rest → word < n) → (told : Option Settled) → StartsIn seen word cur next (Ok told) → Settles next rest (noted items told)
  goes_on cur next word rest items s ascend told starts =
      let ok = ok_of starts.was starts.starts.started told starts.starts.tells in
      subst (λ o. Settles next rest (noted items o)) (sym ok.2)
      (settles_by cur next word starts.was starts.now starts.replaces rest items s ascend starts.starts.through ok.0
      (subst (λ (r : Result Bool ChunkFault). MatchResult r (λ _. starts.now.chunk.is_shut ≡ false) (λ f. starts.now.chunk.is_shut ≡ shut_after f starts.was.chunk.is_shut)) ok.1 starts.starts.ends)
      starts.starts.call.lasts
      (subst (λ r. StartedOne seen starts.was starts.now r) ok.1 starts.starts.restarted)
      starts.was.doubt refl)

  one_ends : (cur new : TableOver F) (word : ℕ) (rest : List ℕ) (items more : List Settled) → Settles cur (word ∷ rest) items → ((n : ℕ) → IsIn n rest → word < n) → (result : Result (Unit {0}) ChunkFault) → IsErr result → StartsNext seen word cur new items more result
      → (answer : Result answered.Answer NoMemory) → Gives of_unit result answer → Ends new more answer
  one_ends cur new word rest items more s ascend (Ok u) is starts answer gives = absurd (cc is)
  one_ends cur new word rest items more s ascend (Err why) is (same, inr starts) answer gives = subst (λ xs. Ends new xs answer) (sym same) (gives_up cur new word rest items s ascend why starts answer gives)
  one_ends cur new word rest items more s ascend (Err why) is (same, inl none) answer gives =
      subst (λ xs. Ends new xs answer) (sym same)
      (subst (λ t. Ends t items answer) (sym none.1)
      (no_memory cur cur (word ∷ rest) items s refl s.words s.lasts (λ written units stands. stands) (λ written units stands. (s.kept written units stands, s.moments written units stands)) answer (subst (λ f. Refused f answer) none.0 gives)))

  each_ends : (words : List ℕ) → AreAscending words → (cur new : TableOver F) (items more : List Settled) → Settles cur words items → (result : Result (Unit {0}) ChunkFault) → StartsEach seen words cur new items more result
      → (answer : Result answered.Answer NoMemory) → Gives of_unit result answer → Ends new more answer
  each_ends [] ascend cur new items more s (Err e) starts answer gives = absurd (cc starts.2)
  each_ends [] ascend cur new items more s (Ok u) starts answer gives =
      subst (λ a. Ends new more a) (sym gives) (subst (λ xs. Ends new xs (Ok answers.Done)) (sym starts.1) (subst (λ t. Ends t items (Ok answers.Done)) (sym starts.0) (all_done cur items s)))
  each_ends (word ∷ rest) ascend cur new items more s result (inl ends) answer gives = one_ends cur new word rest items more s ascend.0 result ends.0 ends.1 answer gives
  each_ends (word ∷ rest) ascend cur new items more s result (inr (mid, between, starts, behind)) answer gives =
      each_ends rest ascend.1 mid new between more (subst (λ xs. Settles mid rest xs) (sym starts.2) (goes_on cur mid word rest items s ascend.0 starts.0 starts.1)) result behind answer gives

  first_kept : AreNamed first.vid first.units → (written : Place → Written) (units : Units) → Stands shelf_seen seen (standing first) written units → AreKept shelf_seen seen written (standing first) (standing first)
  first_kept named written units stands = λ word unit found.
      let its_place = place_at unit.chunk.unit disk in
      record {
        now = unit;
        found = found;
        unit = refl;
        moments = at_start (Says unit.chunk.unit (written its_place).items (written its_place).doubt) (seen unit.chunk.log.file)
            (λ c left. crash_leaves (shown seen unit.chunk) (option_map record_of_doubt unit.doubt) (is_released unit) (written its_place) units its_place (unit_held first named written units stands word unit found) c ((is_file unit.chunk.log.file).present_alone c left));
      }

  begins : AreNamed first.vid first.units → (words : List ℕ) → ((word : ℕ) → list_any (λ listed. listed == word) words ≡ is_some (at_word word first.units)) → Settles first words []
  begins named words all = record {
    vid = refl;
    named = named;
    words = λ word. refl;
    lasts = lasts_same shelf_seen seen (standing first);
    opened = λ word unit found. inl (there word (ap is_some found));
    before = λ item h. absurd h;
    own = λ item h. absurd h;
    order = tt;
    stands = λ written units stands. stands;
    in_doubt = λ written units stands item h. absurd h;
    kept = first_kept named;
    moments = λ written units stands. crash_none shelf_seen seen written units (standing first) stands;
    all = λ written units stands q at some.
        let made = doubt_made written units stands q at some in
        inl (there (packed (name_at first.vid q)) (ap is_some (made_at shelf_seen seen (standing first) written units stands q at (stands.named q at made) made).found));
  }
    where
      there : (word : ℕ) → is_some (at_word word first.units) ≡ true → IsIn word words
      there word some =
          let w = any_gives (λ m. word == m) words (same_test word words ∙ all word ∙ some) in
          subst (λ m. IsIn m words) (sym (same_number word w.0 w.2)) w.1

  nothing_done : AreNamed first.vid first.units → (answer : Result answered.Answer NoMemory) → IsErr answer → Ends first [] answer
  nothing_done named (Ok answer) is = absurd (not_err answer is)
    where
      not_err : (a : answered.Answer) → IsErr {T = answered.Answer} {E = NoMemory} (Ok a) → ⊥
      not_err a h = cc
  nothing_done named (Err e) is = record {
    vid = refl;
    words = λ word. refl;
    counts = omega arith;
    lasts = lasts_same shelf_seen seen (standing first);
    told = λ written units stands. (record { restarts = stands; order = tt; own = λ item h. absurd h; in_doubt = λ item h. absurd h }, first_kept named written units stands, crash_none shelf_seen seen written units (standing first) stands, λ clear. clear);
  }

  pub restart_ends : (new : TableOver F) (more : List Settled) (result : Result (Unit {0}) ChunkFault) (answer : Result answered.Answer NoMemory) → StartsAll seen first new [] more result → Gives of_unit result answer → Ends new more answer
  restart_ends new more result answer starts gives = by starts.starts where
    by : ((more ≡ []) × (new ≡ first) × (result ≡ Err faults.Memory)) ⊎ ((words : List ℕ) × AreWords seen first words × StartsEach seen words first new [] more result) → Ends new more answer
    by (inl none) = subst (λ xs. Ends new xs answer) (sym none.0) (subst (λ t. Ends t [] answer) (sym none.1) (nothing_done starts.named answer (subst (λ r. Gives of_unit r answer) none.2 gives)))
    by (inr (words, are, each)) = each_ends words (ascends words (AllPairs-from_increasing words are.order)) first new [] more (begins starts.named words are.all) result each answer gives

  pub restart_call : (new : TableOver F) (items : List Settled) (answer : Result answered.Answer NoMemory) → Ends new items answer → StationCall shelf_seen seen (standing first) (standing new) answer
  restart_call new items answer ends = record { vid = ends.vid; disk = refl; is_broken = refl; counts = ends.counts }

  pub restarted : (new : TableOver F) (items : List Settled) (answer : Result answered.Answer NoMemory) → Ends new items answer → Restarted shelf_seen seen items answer (standing first) (standing new)
  restarted new items answer ends = inr (refl, ends.told)

  pub restart_lasts : (new : TableOver F) (items : List Settled) (answer : Result answered.Answer NoMemory) → Ends new items answer → Outlasts shelf_seen seen (standing first) (standing new)
  restart_lasts new items answer ends = ends.lasts
