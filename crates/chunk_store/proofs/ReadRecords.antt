-- What the reading of one record says.
use Rattle.std.proofs.Common.{◌≡◌, ◌∙◌, sym, ap, refl, ℕ, Bool, true, false, List, Option, None, Some, Result, Ok, Err, MatchOption, IsOkUnless, ◌⊎◌, inl, inr, not, ◌&&◌, eqb}
use Rattle.std.proofs.lemmas.Bool.{eq-eqb}
use Rattle.unit_id.specs.UnitName.{Name}
use Rattle.shard_record.specs.Spelling.{Spells, first_fault, unit_of}
use Rattle.shard_record.specs.declared.record.ShardRecord.{ShardRecord}
use Rattle.shard_record.specs.declared.record.RecordFault.{RecordFault}
use Rattle.shard_record.specs.declared.record.RecordFault.TheVariants.{Short, BadSum, BadKind, BadUnit, BadNumber, ShortHead, BadSize, BadLength, Trailing, Memory}
use Rattle.shard_record.proofs.Faultless.{spells_faultless}
use Rattle.shard_record.proofs.Places.{one_to_one}
use Rattle.shard_record.proofs.Spelled.{AreBytes}
use Rattle.chunk_store.specs.Reading.{fault_by_record, IsUndamaged, RecordAnswers}

-- what a reading answers, by the first fault
abbrev pub ReadSays : Option RecordFault → Result ShardRecord RecordFault → Type 0
ReadSays first result = MatchOption first (IsOkUnless result Memory) (λ fault. result ≡ Err fault)

-- what a refused reading says of the bytes
refused_by : (fault : RecordFault) (first : Option RecordFault) → ReadSays first (Err fault) → (first ≡ Some fault) ⊎ (fault ≡ Memory)
refused_by fault None is = inr is
refused_by fault (Some f) is = inl cc

-- a reading that is answered by a record met no fault
pub read_whole : (item : ShardRecord) (first : Option RecordFault) → ReadSays first (Ok item) → first ≡ None
read_whole item None is = refl
read_whole item (Some f) is = cc

pub undamaged : (body : List ℕ) → first_fault body ≡ None → IsUndamaged body
undamaged body whole kept computed is = absurd (apart (sym whole ∙ is))
  where
    apart : None ≡ Some (BadSum kept computed) → ⊥
    apart h = cc

unspelled : (body : List ℕ) (fault : RecordFault) → AreBytes body → first_fault body ≡ Some fault → (item : ShardRecord) → Spells item body → ⊥
unspelled body fault small is item spells = apart (sym (spells_faultless body item small spells) ∙ is)
  where
    apart : None ≡ Some fault → ⊥
    apart h = cc

module _ (unit : Name) (is_released : Bool) (place : ℕ) (body : List ℕ) (small : AreBytes body) where
  otherwise : (fault : RecordFault) → first_fault body ≡ Some fault → ((kept computed : ℕ) → fault ≡ BadSum kept computed → ⊥) → RecordAnswers unit is_released place body (Err (fault_by_record place Short))
  otherwise fault is other =
      (refl, (λ kept computed sum. other kept computed (one kept computed (sym is ∙ sum))), λ item spells own open_. unspelled body fault small is item spells)
    where
      one : (kept computed : ℕ) → Some fault ≡ Some (BadSum kept computed) → fault ≡ BadSum kept computed
      one kept computed e = cc

  by_fault : (fault : RecordFault) → (first_fault body ≡ Some fault) ⊎ (fault ≡ Memory) → RecordAnswers unit is_released place body (Err (fault_by_record place fault))
  by_fault Memory why = tt
  by_fault (BadSum kept computed) (inl is) = (is, unspelled body (BadSum kept computed) small is)
  by_fault (BadSum kept computed) (inr is) = absurd (apart is)
    where
      apart : BadSum kept computed ≡ Memory → ⊥
      apart h = cc
  by_fault Short (inl is) = otherwise Short is (λ k c h. cc)
  by_fault Short (inr is) = absurd (apart is)
    where
      apart : Short ≡ Memory → ⊥
      apart h = cc
  by_fault (BadKind kind) (inl is) = otherwise (BadKind kind) is (λ k c h. cc)
  by_fault (BadKind kind) (inr is) = absurd (apart is)
    where
      apart : BadKind kind ≡ Memory → ⊥
      apart h = cc
  by_fault BadUnit (inl is) = otherwise BadUnit is (λ k c h. cc)
  by_fault BadUnit (inr is) = absurd (apart is)
    where
      apart : BadUnit ≡ Memory → ⊥
      apart h = cc
  by_fault (BadNumber number) (inl is) = otherwise (BadNumber number) is (λ k c h. cc)
  by_fault (BadNumber number) (inr is) = absurd (apart is)
    where
      apart : BadNumber number ≡ Memory → ⊥
      apart h = cc
  by_fault ShortHead (inl is) = otherwise ShortHead is (λ k c h. cc)
  by_fault ShortHead (inr is) = absurd (apart is)
    where
      apart : ShortHead ≡ Memory → ⊥
      apart h = cc
  by_fault (BadSize size) (inl is) = otherwise (BadSize size) is (λ k c h. cc)
  by_fault (BadSize size) (inr is) = absurd (apart is)
    where
      apart : BadSize size ≡ Memory → ⊥
      apart h = cc
  by_fault (BadLength stated have) (inl is) = otherwise (BadLength stated have) is (λ k c h. cc)
  by_fault (BadLength stated have) (inr is) = absurd (apart is)
    where
      apart : BadLength stated have ≡ Memory → ⊥
      apart h = cc
  by_fault (Trailing extra) (inl is) = otherwise (Trailing extra) is (λ k c h. cc)
  by_fault (Trailing extra) (inr is) = absurd (apart is)
    where
      apart : Trailing extra ≡ Memory → ⊥
      apart h = cc

  -- bytes that were refused as a record
  pub refused : (fault : RecordFault) → ReadSays (first_fault body) (Err fault) → RecordAnswers unit is_released place body (Err (fault_by_record place fault))
  refused fault why = by_fault fault (refused_by fault (first_fault body) why)

  -- a record that is none of the unit's, or stands behind a release
  pub foreign : (item : ShardRecord) → Spells item body → first_fault body ≡ None → (is_released ≡ true) ⊎ (unit_of item ≡ unit → ⊥) → RecordAnswers unit is_released place body (Err (fault_by_record place Short))
  foreign item spells whole why = (
    refl,
    undamaged body whole,
    λ other others own open_. elim why [
      | inl behind ↦ apart (sym behind ∙ open_)
      | inr not_own ↦ not_own (ap unit_of (one_to_one item other body spells others) ∙ own)
    ],
  )
    where
      apart : true ≡ false → ⊥
      apart h = cc

differ : (x y z : Bool) → x ≡ true → y ≡ true → z ≡ true → true ≡ not (x && (y && z)) → ⊥
differ true true true p q r h = cc
differ true true false p q r h = cc
differ true false z p q r h = cc
differ false y z p q r h = cc

-- names that differ in a part aren't one
pub other_name : (a b : Name) → true ≡ not (eqb a.vid b.vid && (eqb a.index b.index && eqb a.epoch b.epoch)) → a ≡ b → ⊥
other_name a b parts same =
    differ (eqb a.vid b.vid) (eqb a.index b.index) (eqb a.epoch b.epoch)
    (eq-eqb a.vid b.vid (ap (λ (n : Name). n.vid) same)) (eq-eqb a.index b.index (ap (λ (n : Name). n.index) same)) (eq-eqb a.epoch b.epoch (ap (λ (n : Name). n.epoch) same)) parts
