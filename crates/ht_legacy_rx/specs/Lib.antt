pub mod Folding
pub mod Labelling
pub mod Results
pub mod Texts
