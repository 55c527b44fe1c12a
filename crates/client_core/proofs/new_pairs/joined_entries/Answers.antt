use Rattle.std.proofs.Common.{◌≡◌, ◌++◌, ◌∷◌, [], All, List, length, map, take, get_or, sym, ap, subst, ◌∙◌}
use Rattle.std.specs.List.{flat_map}
use Rattle.std.proofs.lemmas.Grind.{flat_map-append}
use Rattle.std.proofs.lemmas.List.{append-nil, map_push, take_more}
use Rattle.std.proofs.lemmas.List.Elements.{All-push}
use Rattle.add_counters.specs.NewEntry.{entry_text}
use Rattle.add_counters.specs.declared.entry.Entry.{Entry}
use Rattle.sse_frames.specs.Frames.{entry_bytes}
use Rattle.client_core.proofs.new_pairs.joined_entries.Goals as goal

pub loop-entry-preserved : goal.loop-entry-preserved
loop-entry-preserved c =
    let entries = c.args.entries.now in
    let i = c.loop-entry.entry-index in
    let none : Entry = record { label = []; sealed = [] } in
    let e : Entry = get_or entries i none in
    let front : List Entry = take i entries in
    let more = take_more entries i none c.loop-entry-test.true in
    let sized : Entry → Type 0 = λ x. (length x.label ≡ 16) × (length x.sealed ≡ 8) in
    record {
      bytes =
          c.in_ok-push_entry.ensures.ok
          ∙ ap (λ bytes. bytes ++ entry_bytes (entry_text e)) c.loop-entry.invariant.bytes
          ∙ ap (λ last. flat_map entry_bytes (map entry_text front) ++ last) (sym (append-nil (entry_bytes (entry_text e))))
          ∙ sym (ap (λ xs. flat_map entry_bytes (map entry_text xs)) more ∙ ap (flat_map entry_bytes) (map_push entry_text front e) ∙ flat_map-append entry_bytes (map entry_text front) (entry_text e ∷ []));
      sizes = subst (All sized) (sym more) (All-push sized front e c.loop-entry.invariant.sizes (c.push_entry.ensures.label, c.push_entry.ensures.sealed));
    }
