pub mod SeveralLaws
pub mod SingleLaws
