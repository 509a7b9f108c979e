-- Lemmas: a property of formats that is kept where they are put together holds of what is passed over.
use Rattle.std.proofs.Common.{ℕ, zero, suc, ◌+◌, ◌*◌, false, ◌||◌, ◌==◌}
use Rattle.etf_model.specs.declared.fault.EtfFault.{EtfFault}
use Rattle.etf_model.specs.declared.fault.EtfFault.TheVariants.{Unsupported, Depth}
use Rattle.etf_model.specs.declared.tags.TheConstants.{SMALL_INTEGER, INTEGER, SMALL_BIG, LARGE_BIG, ATOM, SMALL_ATOM, ATOM_UTF8, SMALL_ATOM_UTF8, SMALL_TUPLE}
use Rattle.etf_model.specs.declared.tags.TheConstants.{LARGE_TUPLE, STRING, LIST, BINARY, BIT_BINARY, MAP, NEW_FLOAT, PID, NEW_PID, PORT, NEW_PORT, V4_PORT}
use Rattle.etf_model.specs.declared.tags.TheConstants.{NEW_REFERENCE, NEWER_REFERENCE}
use Rattle.etf_model.specs.Format.{Format, byte, followed, changed, either, times}
use Rattle.etf_model.specs.Spelling.{number, tag_of}
use Rattle.etf_model.specs.Skipping.{has_layout, begins_node, gap, sized_gap, node, at_node, reference, parts, counted, skip_body, skipped_at, skipped}
use Rattle.etf_model.specs.Kept.{IsKeptWhere, changed-kept, either-kept, times-kept}
use Rattle.etf_model.specs.SpellingKept.{number-kept, bytes-kept, tested_byte-kept}

module _ {Told : (A : Type 0) → (ℕ → A → EtfFault) → Type 0} (P : (A : Type 0) → Format A → Type 0) (kept : IsKeptWhere Told P)
    (tag_told : Told ℕ (λ term x. Unsupported term x)) (depth_told : Told ℕ (λ term x. Depth term)) where
  gap-kept : (n : ℕ) → P (Unit {0}) (gap n)
  gap-kept n = changed-kept P kept (times n byte) (λ bytes. tt) (bytes-kept P kept n)

  sized_gap-kept : (size extra : ℕ) → P (Unit {0}) (sized_gap size extra)
  sized_gap-kept size extra = kept.of_followed (number size) (λ n. gap (n + extra)) (number-kept P kept size) (λ n front w. gap-kept (n + extra))

  node-kept : P (Unit {0}) node
  node-kept =
      kept.of_framed (followed (tag_of begins_node (λ term x. Unsupported term x))
      (λ tag. either (tag == SMALL_ATOM || tag == SMALL_ATOM_UTF8) (sized_gap 1 0) (sized_gap 2 0)))
      (kept.of_followed (tag_of begins_node (λ term x. Unsupported term x))
      (λ tag. either (tag == SMALL_ATOM || tag == SMALL_ATOM_UTF8) (sized_gap 1 0) (sized_gap 2 0))
      (tested_byte-kept P kept begins_node (λ term x. Unsupported term x) tag_told)
      (λ tag front w. either-kept P kept (tag == SMALL_ATOM || tag == SMALL_ATOM_UTF8) (sized_gap 1 0) (sized_gap 2 0) (sized_gap-kept 1 0)
      (λ _. sized_gap-kept 2 0)))

  at_node-kept : (n : ℕ) → P (Unit {0}) (at_node n)
  at_node-kept n = kept.of_followed node (λ name. gap n) node-kept (λ name front w. gap-kept n)

  reference-kept : (creation : ℕ) → P (Unit {0}) (reference creation)
  reference-kept creation = kept.of_followed (number 2) (λ n. at_node (creation + 4 * n)) (number-kept P kept 2) (λ n front w. at_node-kept (creation + 4 * n))

  module _ (part : Format (Unit {0})) (p : P (Unit {0}) part) where
    counted-kept : (size each extra : ℕ) → P (Unit {0}) (counted part size each extra)
    counted-kept size each extra =
        kept.of_followed (number size) (λ n. parts part (each * n + extra)) (number-kept P kept size)
        (λ n front w. changed-kept P kept (times (each * n + extra) part) (λ ts. tt) (times-kept P kept (each * n + extra) part (λ _. p)))

    body-kept : (tag : ℕ) → P (Unit {0}) (skip_body part tag)
    body-kept tag =
        either-kept P kept (tag == SMALL_INTEGER) _ _ (gap-kept 1)
        (λ _. either-kept P kept (tag == INTEGER) _ _ (gap-kept 4)
        (λ _. either-kept P kept (tag == NEW_FLOAT) _ _ (gap-kept 8)
        (λ _. either-kept P kept (tag == SMALL_BIG) _ _ (sized_gap-kept 1 1)
        (λ _. either-kept P kept (tag == LARGE_BIG) _ _ (sized_gap-kept 4 1)
        (λ _. either-kept P kept (tag == ATOM) _ _ (sized_gap-kept 2 0)
        (λ _. either-kept P kept (tag == SMALL_ATOM) _ _ (sized_gap-kept 1 0)
        (λ _. either-kept P kept (tag == ATOM_UTF8) _ _ (sized_gap-kept 2 0)
        (λ _. either-kept P kept (tag == SMALL_ATOM_UTF8) _ _ (sized_gap-kept 1 0)
        (λ _. either-kept P kept (tag == STRING) _ _ (sized_gap-kept 2 0)
        (λ _. either-kept P kept (tag == BINARY) _ _ (sized_gap-kept 4 0)
        (λ _. either-kept P kept (tag == BIT_BINARY) _ _ (sized_gap-kept 4 1)
        (λ _. either-kept P kept (tag == SMALL_TUPLE) _ _ (counted-kept 1 1 0)
        (λ _. either-kept P kept (tag == LARGE_TUPLE) _ _ (counted-kept 4 1 0)
        (λ _. either-kept P kept (tag == LIST) _ _ (counted-kept 4 1 1)
        (λ _. either-kept P kept (tag == MAP) _ _ (counted-kept 4 2 0)
        (λ _. either-kept P kept (tag == PID) _ _ (at_node-kept 9)
        (λ _. either-kept P kept (tag == NEW_PID) _ _ (at_node-kept 12)
        (λ _. either-kept P kept (tag == PORT) _ _ (at_node-kept 5)
        (λ _. either-kept P kept (tag == NEW_PORT) _ _ (at_node-kept 8)
        (λ _. either-kept P kept (tag == V4_PORT) _ _ (at_node-kept 12)
        (λ _. either-kept P kept (tag == NEW_REFERENCE) _ _ (reference-kept 1)
        (λ _. either-kept P kept (tag == NEWER_REFERENCE) _ _ (reference-kept 4) (λ _. gap-kept 0)))))))))))))))))))))))

  skipped_at-kept : (levels : ℕ) → P (Unit {0}) (skipped_at levels)
  skipped_at-kept zero =
      kept.of_framed (changed (tag_of (λ x. false) (λ term x. Depth term)) (λ x. tt))
      (changed-kept P kept (tag_of (λ x. false) (λ term x. Depth term)) (λ x. tt) (tested_byte-kept P kept (λ x. false) (λ term x. Depth term) depth_told))
  skipped_at-kept (suc levels) =
      kept.of_framed (followed (tag_of has_layout (λ term x. Unsupported term x)) (skip_body (skipped_at levels)))
      (kept.of_followed (tag_of has_layout (λ term x. Unsupported term x)) (skip_body (skipped_at levels))
      (tested_byte-kept P kept has_layout (λ term x. Unsupported term x) tag_told) (λ tag front w. body-kept (skipped_at levels) (skipped_at-kept levels) tag))

  pub skipped-kept : P (Unit {0}) skipped
  skipped-kept = skipped_at-kept 256
