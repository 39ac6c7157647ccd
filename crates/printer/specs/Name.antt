-- A name without what stands in front of it (01, printed list; the Rust's `strip_prefix`).
use Rattle.std.specs.Prelude.{cond, List, ℕ, length, take, drop}
use Rattle.rules.specs.Text.{same_bytes}

-- the bytes behind a prefix, or all of them where they don't begin with it
unfoldable pub without_prefix : List ℕ → List ℕ → List ℕ
without_prefix prefix bytes = cond (same_bytes (take (length prefix) bytes) prefix) (drop (length prefix) bytes) bytes
