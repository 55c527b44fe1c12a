use Rattle.std.proofs.Common.{◌≡◌, ℕ, Bool, not, ◌&&◌, if◌then◌else◌, true, List, ◌++◌, ◌+◌, ◌-◌, ◌<◌, ◌≤◌, ◌^◌, Some, false, length, get_or, nat_eq, vec_capacity, refl, sym, ap, subst, ◌∙◌, arith}
use Rattle.std.specs.Prelude.{All, slice_index}
use Rattle.std.specs.List.{list_any, IsDistinct}
use Rattle.std.specs.List.Sorted.{IsNonDecreasing}
use Rattle.std.specs.Map.{values_of}
use Rattle.std.specs.Option.{option_map_or}
use Rattle.std.specs.Str.{bytes_eq}
use Rattle.std.proofs.Math.Nat.{min-le_left}
use Rattle.std.proofs.lemmas.List.{length-append, length-map}
use Rattle.std.proofs.lemmas.List.Elements.{All-weaker}
use Rattle.indexmap.specs.IndexMap.{set_value_at, with_value_at}
use Rattle.client_registry.specs.Command.{Add}
use Rattle.client_registry.specs.DocumentRule.{IsDocument}
use Rattle.client_registry.specs.Facts.{facts_after, has_counters}
use Rattle.client_registry.specs.HashNumbers.{hash_numbers}
use Rattle.client_registry.specs.IdNumber.{id_number}
use Rattle.client_registry.specs.Numbered.{words_by_number}
use Rattle.client_registry.specs.Registered.{facts, kept_of, known_words}
use Rattle.client_registry.specs.RegistryView.{kept_entry, IsKept}
use Rattle.client_registry.specs.WordBytes.{word_bytes}
use Rattle.client_registry.specs.WordTable.{table_words}
use Rattle.client_registry.specs.declared.doc_id.DocId.{DocId}
use Rattle.client_registry.specs.declared.listed.Listed.{Listed}
use Rattle.client_registry.specs.declared.registry.Registry.TheInside.{Inside}
use Rattle.client_registry.proofs.BoundLaws.{values_counts}
use Rattle.client_registry.proofs.EntryLaws.{All_replaced}
use Rattle.client_registry.proofs.FactsLaws.{facts-add}
use Rattle.client_registry.proofs.PutLaws.{counters_free, differing, facts-put, kept_put, rising}
use Rattle.client_registry.proofs.RegistryLaws.{has_kept, kept_found, known_table}
use Rattle.client_registry.proofs.TableLaws.{rise}
use Rattle.client_registry.proofs.registry.Registry.add_numbered.Goals as goal

-- what is counted up is at most one more
one_more : (b : Bool) → (if b then 1 else 0) ≤ 1
one_more true = omega arith
one_more false = omega arith

-- the numbers that are given, as they stand in the table
given : (r : Inside) (known : List (List ℕ)) (ns ms : List ℕ) (words : List (List ℕ)) → known ≡ table_words r.words.entries → ns ≡ ms → words_by_number known ms ≡ words → All (λ n. n < length known) ms
    → (words_by_number (table_words r.words.entries) ns ≡ words) × All (λ n. n < length r.words.entries) ns
given r known ns ms words same copied numbers within =
    let len = length-map {B = List ℕ} r.words.entries (λ e. word_bytes e.0) in (
      (λ i. words_by_number (sym same i) (copied i)) ∙ numbers,
      subst (All (λ n. n < length r.words.entries)) (sym copied) (All-weaker (λ n. n < length known) (λ n. n < length r.words.entries) (λ n lt. omega (arith, lt, len, ap length same)) ms within),
    )

pub unwrap-place-requires : goal.unwrap-place-requires
unwrap-place-requires c =
    let id = id_number c.id.result in
    c.get_index_of.ensures.found ∙ has_kept c.self.inside id c.requires.room.entry.0 (ap (λ v. kept_of v id) c.self.view_is ∙ ap (kept_of c.args.self.now) c.id.ensures ∙ c.requires.room.entry.1)

pub count_new-requires-clause-differ : goal.count_new-requires-clause-differ
count_new-requires-clause-differ c =
    let id = id_number c.id.result in
    let doc = c.args.doc.now in
    let r = c.self.inside in
    let ns = c.append.new.to.items in
    let is = given r (known_words c.args.self.now) ns c.args.numbers.now doc.words (sym (ap known_words c.self.view_is) ∙ known_table r) (c.append.ensures.items ∙ ap (λ xs. xs ++ c.args.numbers.now) c.self.invariant.next) c.requires.numbers c.requires.within in
    let old = c.index_mut-listed.result.now in
    let at = sym c.index_mut-listed.ensures.value ∙ rw c.unwrap-place.ensures at c.get_index_of.ensures.value in
    let numbers = is.0 in
    let dead = ap (λ v. (facts v).live id) c.self.view_is ∙ ap (facts c.args.self.now).live c.id.ensures ∙ c.requires.dead in
    let valid = subst (λ i. IsDocument (record { id = i; words = doc.words })) (sym c.id.ensures) c.words.ensures.valid in
    subst (IsDistinct nat_eq) (sym c.deref.ensures.value) (differing r c.self.invariant id doc.words ns old numbers is.1 at dead valid)

pub count_new-requires-clause-in_order : goal.count_new-requires-clause-in_order
count_new-requires-clause-in_order c =
    let id = id_number c.id.result in
    let doc = c.args.doc.now in
    let r = c.self.inside in
    let ns = c.append.new.to.items in
    let is = given r (known_words c.args.self.now) ns c.args.numbers.now doc.words (sym (ap known_words c.self.view_is) ∙ known_table r) (c.append.ensures.items ∙ ap (λ xs. xs ++ c.args.numbers.now) c.self.invariant.next) c.requires.numbers c.requires.within in
    let old = c.index_mut-listed.result.now in
    let at = sym c.index_mut-listed.ensures.value ∙ rw c.unwrap-place.ensures at c.get_index_of.ensures.value in
    let numbers = is.0 in
    let dead = ap (λ v. (facts v).live id) c.self.view_is ∙ ap (facts c.args.self.now).live c.id.ensures ∙ c.requires.dead in
    let valid = subst (λ i. IsDocument (record { id = i; words = doc.words })) (sym c.id.ensures) c.words.ensures.valid in
    subst IsNonDecreasing (sym c.deref-2.ensures.value) (rising r c.self.invariant id doc.words ns old numbers is.1 at dead valid)

pub count_new-requires-clause-counters : goal.count_new-requires-clause-counters
count_new-requires-clause-counters c =
    let id = id_number c.id.result in
    let doc = c.args.doc.now in
    let r = c.self.inside in
    let ns = c.append.new.to.items in
    let is = given r (known_words c.args.self.now) ns c.args.numbers.now doc.words (sym (ap known_words c.self.view_is) ∙ known_table r) (c.append.ensures.items ∙ ap (λ xs. xs ++ c.args.numbers.now) c.self.invariant.next) c.requires.numbers c.requires.within in
    let old = c.index_mut-listed.result.now in
    let at = sym c.index_mut-listed.ensures.value ∙ rw c.unwrap-place.ensures at c.get_index_of.ensures.value in
    let numbers = is.0 in
    let dead = ap (λ v. (facts v).live id) c.self.view_is ∙ ap (facts c.args.self.now).live c.id.ensures ∙ c.requires.dead in
    let valid = subst (λ i. IsDocument (record { id = i; words = doc.words })) (sym c.id.ensures) c.words.ensures.valid in
    let free = ap (λ v. has_counters (facts v) (record { id = id; words = doc.words })) c.self.view_is ∙ ap (λ i. has_counters (facts c.args.self.now) (record { id = i; words = doc.words })) c.id.ensures ∙ c.requires.counters in
    subst (λ ms. All (λ n. list_any (nat_eq n) c.deref-2.result.now ≡ false → slice_index (values_of r.words.entries) n < 2 ^ 32 - 1) ms) (sym c.deref.ensures.value)
    (subst (λ ls. All (λ n. list_any (nat_eq n) ls ≡ false → slice_index (values_of r.words.entries) n < 2 ^ 32 - 1) ns) (sym c.deref-2.ensures.value) (counters_free r c.self.invariant id doc.words ns old numbers is.1 at dead valid free))

pub revive-requires-clause-in_order : goal.revive-requires-clause-in_order
revive-requires-clause-in_order c =
    let id = id_number c.id.result in
    let doc = c.args.doc.now in
    let r = c.self.inside in
    let ns = c.append.new.to.items in
    let is = given r (known_words c.args.self.now) ns c.args.numbers.now doc.words (sym (ap known_words c.self.view_is) ∙ known_table r) (c.append.ensures.items ∙ ap (λ xs. xs ++ c.args.numbers.now) c.self.invariant.next) c.requires.numbers c.requires.within in
    let old = c.index_mut-listed.result.now in
    let at = sym c.index_mut-listed.ensures.value ∙ rw c.unwrap-place.ensures at c.get_index_of.ensures.value in
    let numbers = is.0 in
    let dead = ap (λ v. (facts v).live id) c.self.view_is ∙ ap (facts c.args.self.now).live c.id.ensures ∙ c.requires.dead in
    let valid = subst (λ i. IsDocument (record { id = i; words = doc.words })) (sym c.id.ensures) c.words.ensures.valid in
    rising r c.self.invariant id doc.words ns old numbers is.1 at dead valid

pub revive-requires-clause-room : goal.revive-requires-clause-room
revive-requires-clause-room c =
    let id = id_number c.id.result in
    let old = c.index_mut-listed.result.now in
    let at = sym c.index_mut-listed.ensures.value ∙ rw c.unwrap-place.ensures at c.get_index_of.ensures.value in
    let room = c.requires.room.entry in
    let same = sym (kept_found c.self.inside id (Some old) at) ∙ ap (λ v. kept_of v id) c.self.view_is ∙ ap (kept_of c.args.self.now) c.id.ensures ∙ room.1 in
    let numbers = ap (λ o. option_map_or (λ k. length k.numbers) o 0) same in
    let words = sym (length-map c.words.result.now word_bytes) ∙ ap length c.words.ensures.words in
    let same_len = ap length c.requires.numbers in
    let within = min-le_left (vec_capacity c.self.inside.next) (vec_capacity c.self.inside.again) in
    omega (arith, room.2, numbers, words, within, ap (λ v. v.room) c.self.view_is, ap length c.append.ensures.items, ap length c.self.invariant.next, length-append c.self.inside.next.items c.args.numbers.now, c.append.new.to.ok.0, c.append.ensures.capacity, same_len, old.numbers.ok.0)

pub invariant_of-self : goal.invariant_of-self
invariant_of-self c =
    let id = id_number c.id.result in
    let doc = c.args.doc.now in
    let r = c.self.inside in
    let ns = c.append.new.to.items in
    let is = given r (known_words c.args.self.now) ns c.args.numbers.now doc.words (sym (ap known_words c.self.view_is) ∙ known_table r) (c.append.ensures.items ∙ ap (λ xs. xs ++ c.args.numbers.now) c.self.invariant.next) c.requires.numbers c.requires.within in
    let old = c.index_mut-listed.result.now in
    let at = sym c.index_mut-listed.ensures.value ∙ rw c.unwrap-place.ensures at c.get_index_of.ensures.value in
    let numbers = is.0 in
    let dead = ap (λ v. (facts v).live id) c.self.view_is ∙ ap (facts c.args.self.now).live c.id.ensures ∙ c.requires.dead in
    let valid = subst (λ i. IsDocument (record { id = i; words = doc.words })) (sym c.id.ensures) c.words.ensures.valid in
    let place = sym c.get_index_of.ensures.index ∙ c.unwrap-place.ensures in
    let new = c.revive.new.self in
    let table = table_words r.words.entries in
    let counted = c.count_new.ensures.words in
    let kept = kept_put r c.self.invariant id doc.words ns old numbers is.1 at dead valid new c.revive.ensures.live c.revive.ensures.numbers in
    record {
      words_differ = subst (IsDistinct bytes_eq) (sym counted) c.self.invariant.words_differ;
      kept = subst (λ ws. All (λ (e : DocId × Listed). IsKept ws (kept_entry e)) (set_value_at r.documents.entries c.unwrap-place.result new)) (sym counted) (All_replaced (IsKept table) r.documents.entries id c.unwrap-place.result place new kept c.self.invariant.kept);
      few = omega (arith, c.self.invariant.few, length-map c.count_new.new.words.entries (λ e. word_bytes e.0), length-map r.words.entries (λ e. word_bytes e.0), ap length counted);
      next = c.revive.ensures.next;
      again = c.revive.ensures.again;
      hashers = c.self.invariant.hashers ∙ sym c.count_new.ensures.hasher;
      bound = λ free n.
          let before = c.self.invariant.bound (omega (arith, free, c.saturating_add-self-inside.ensures)) n in
          let was = ap (λ xs. slice_index xs n) (values_counts r.words.entries) in
          let is = ap (λ xs. slice_index xs n) (values_counts c.count_new.new.words.entries) in
          let one = one_more (list_any (nat_eq n) c.deref.result.now && not (list_any (nat_eq n) c.deref-2.result.now)) in
          omega (arith, free, before, was, is, one, c.count_new.ensures.counts n, c.saturating_add-self-inside.ensures);
    }

-- the registry after the addition
abbrev after : goal.After-self-2-1 → Inside
after c = record {
  documents = with_value_at c.self.inside.documents c.unwrap-place.result c.revive.new.self;
  words = c.count_new.new.words;
  next = c.revive.new.next;
  again = c.revive.new.again;
  most = c.saturating_add-self-inside.result;
}

pub returns-clause-facts : goal.returns-clause-facts
returns-clause-facts c =
    let id = id_number c.id.result in
    let doc = c.args.doc.now in
    let r = c.self.inside in
    let ns = c.append.new.to.items in
    let is = given r (known_words c.args.self.now) ns c.args.numbers.now doc.words (sym (ap known_words c.self.view_is) ∙ known_table r) (c.append.ensures.items ∙ ap (λ xs. xs ++ c.args.numbers.now) c.self.invariant.next) c.requires.numbers c.requires.within in
    let old = c.index_mut-listed.result.now in
    let at = sym c.index_mut-listed.ensures.value ∙ rw c.unwrap-place.ensures at c.get_index_of.ensures.value in
    let numbers = is.0 in
    let dead = ap (λ v. (facts v).live id) c.self.view_is ∙ ap (facts c.args.self.now).live c.id.ensures ∙ c.requires.dead in
    let valid = subst (λ i. IsDocument (record { id = i; words = doc.words })) (sym c.id.ensures) c.words.ensures.valid in
    let place = sym c.get_index_of.ensures.index ∙ c.unwrap-place.ensures in
    let new = c.revive.new.self in
    let counts : (n : ℕ) → get_or (values_of c.count_new.new.words.entries) n 0 ≡ get_or (values_of r.words.entries) n 0 + rise old.numbers.items ns n =
    λ n. c.count_new.ensures.counts n ∙ (λ i. get_or (values_of r.words.entries) n 0 + rise (c.deref-2.ensures.value i) (c.deref.ensures.value i) n) in
    facts-put r c.self.invariant id doc.words ns old numbers is.1 at dead valid new c.revive.ensures.live c.revive.ensures.numbers (after c) c.unwrap-place.result place refl c.count_new.ensures.words counts
    ∙ ap (λ v. facts_after (facts v) (Add (record { id = id; words = doc.words }))) c.self.view_is
    ∙ ap (λ i. facts_after (facts c.args.self.now) (Add (record { id = i; words = doc.words }))) c.id.ensures

pub returns-clause-words : goal.returns-clause-words
returns-clause-words c = known_table (after c) ∙ c.count_new.ensures.words ∙ sym (known_table c.self.inside) ∙ ap known_words c.self.view_is

pub returns-clause-keys : goal.returns-clause-keys
returns-clause-keys c = ap hash_numbers c.count_new.ensures.hasher ∙ ap (λ v. v.keys) c.self.view_is

pub returns-clause-history : goal.returns-clause-history
returns-clause-history c =
    λ s past stands.
    let doc = c.args.doc.now in
    returns-clause-facts c
    ∙ ap (λ f. facts_after f (Add doc)) stands
    ∙ facts-add s past doc (ap (λ f. f.live doc.id) (sym stands) ∙ c.requires.dead)
