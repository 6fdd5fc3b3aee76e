mod LayLaws
pub mod UndoLaws
