-- Units that are started in turn: what is left to start leads to the end as all does.
use Rattle.std.proofs.Common.{◌≡◌, ◌∙◌, sym, ap, refl, subst, ℕ, ◌<◌, ◌+◌, true, List, ◌∷◌, Result, Ok, inr, length, get_or, drop}
use Rattle.std.specs.Prelude.{◌==◌, is_some}
use Rattle.std.specs.List.{list_any}
use Rattle.std.proofs.lemmas.List.{drop_more}
use Rattle.unit_id.specs.Lists.{IsIn}
use Rattle.unit_id.proofs.Bools.{equal_test}
use Rattle.unit_id.proofs.Membership.{gives_any}
use Rattle.disk_base.specs.Disk.{FileView}
use Rattle.chunk_store.specs.declared.fault.ChunkFault.{ChunkFault}
use Rattle.blob_node.specs.declared.settled.Settled.{Settled}
use Rattle.blob_node.specs.UnitTable.{TableOver, at_word}
use Rattle.blob_node.specs.Starting.{StartsNext, StartsEach}
use Rattle.blob_node.proofs.ListWork.{same_test}
use Rattle.blob_node.proofs.Tables.{some_set}

module _ {F : Type 0} (seen : F → FileView) (words : List ℕ) (old : TableOver F) (before : List Settled) where
  pub record LeadsOn (rest : List ℕ) (cur : TableOver F) (items : List Settled) : Type 0 where
    pub leads : (new : TableOver F) (more : List Settled) (result : Result (Unit {0}) ChunkFault) → StartsEach seen rest cur new items more result → StartsEach seen words old new before more result
    pub there : (word : ℕ) → IsIn word rest → is_some (at_word word cur.units) ≡ true

  module _ (index word other_word : ℕ) (within : index < length words) (is : word ≡ get_or words index other_word) (cur : TableOver F) (items : List Settled) (on : LeadsOn (drop index words) cur items) where
    split : drop index words ≡ word ∷ drop (index + 1) words
    split = drop_more words index other_word within ∙ ap (λ w. w ∷ drop (index + 1) words) (sym is)

    here : LeadsOn (word ∷ drop (index + 1) words) cur items
    here = subst (λ ws. LeadsOn ws cur items) split on

    pub leads_next : (next : TableOver F) (more : List Settled) → StartsNext seen word cur next items more (Ok tt) → LeadsOn (drop (index + 1) words) next more
    leads_next next more starts = record {
      leads = λ new last result behind. here.leads new last result (inr (next, more, starts, behind));
      there = λ other h.
          let r = starts.1.replaces in
          ap (λ es. is_some (at_word other es)) r.units ∙ some_set cur.units word starts.1.was starts.1.now r.found other ∙ here.there other (inr h);
    }

-- each of a table's words is found
pub all_there : {F : Type 0} (table : TableOver F) (words : List ℕ) → ((word : ℕ) → list_any (λ listed. listed == word) words ≡ is_some (at_word word table.units)) → (word : ℕ) → IsIn word words → is_some (at_word word table.units) ≡ true
all_there table words all word there = sym (all word) ∙ sym (same_test word words) ∙ gives_any (λ m. word == m) words word there (equal_test word word refl)
